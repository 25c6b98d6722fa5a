-- The part lies within the PDU; where there is none it is the empty part at 0.
use Rattle.std.proofs.Common.{rules, refl, sym, arith}
use Rattle.reading.proofs.DataLaws.{part_within, part_is, part_start, part_none}
use Rattle.reading.proofs.data.fragment.Goals as goal

pub overflow_add-end : goal.overflow_add-end
overflow_add-end c = let w = part_within c.args.pdu.now _ c.in-Ok.pdv.id c.in-Ok.pdv.control c.in-Ok.pdv.start c.in-Ok.pdv.len c.in-Ok.ensures in omega arith

pub slice_bounds-result-end : goal.slice_bounds-result-end
slice_bounds-result-end c = let w = part_within c.args.pdu.now _ c.in-Ok.pdv.id c.in-Ok.pdv.control c.in-Ok.pdv.start c.in-Ok.pdv.len c.in-Ok.ensures in search rules

pub returns-in-Ok : goal.returns-in-Ok
returns-in-Ok c =
    let s = part_start c.args.pdu.now c.args.number c.in-Ok.pdv.id c.in-Ok.pdv.control c.in-Ok.pdv.start c.in-Ok.pdv.len c.in-Ok.ensures in
    record { block = refl; place = omega arith; bytes = part_is c.args.pdu.now c.args.number c.in-Ok.pdv.id c.in-Ok.pdv.control c.in-Ok.pdv.start c.in-Ok.pdv.len c.in-Ok.ensures }

pub returns-in-Err : goal.returns-in-Err
returns-in-Err c =
    let f = part_none c.args.pdu.now c.args.number c.in-Err.field-0 c.in-Err.ensures in
    let z = f.0 in
    record { block = refl; place = omega arith; bytes = sym f.1 }
