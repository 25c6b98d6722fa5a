-- Where the part lies, and its bytes.
use Rattle.std.proofs.Common.{rules, refl, arith}
use Rattle.user_items.proofs.BodyLaws.{uid_none, from_none, from_two, uid_cut}
use Rattle.user_items.proofs.body.uid_in.Goals as goal

pub returns-then-b-lt2 : goal.returns-then-b-lt2
returns-then-b-lt2 c =
    let f = from_none c.args.b.now c.if-b-lt2.true in
    record { block = refl; place = omega arith; bytes = uid_none c.args.b.now c.if-b-lt2.true }

pub returns : goal.returns
returns c =
    let f = from_two c.args.b.now c.if-b-lt2.false in
    record { block = refl; place = omega arith; bytes = uid_cut c.args.b.now c.min-end.result (search rules) }
