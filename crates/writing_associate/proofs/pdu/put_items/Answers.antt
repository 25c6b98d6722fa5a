-- `put_items`: each item has room behind the one before it.
use Rattle.writing_associate.specs.Private.Pdu.{associate_said}
use Rattle.writing_associate.proofs.PduLaws.{records_small, contexts_room, items_laws}
use Rattle.writing_associate.proofs.pdu.put_items.Goals as goal

pub put_item-a-requires : goal.put_item-a-requires
put_item-a-requires c = search items_laws

pub put_contexts-b-requires : goal.put_contexts-b-requires
put_contexts-b-requires c =
    let f = associate_said c.args.f in
    let o = c.args.out.now in
    let room = contexts_room f o c.args.user c.args.at c.requires _ _ c.put_item-a.ensures _ c.as_chunks.ensures.front in
    (room, records_small f o c.args.user c.args.at c.requires _ _ c.put_item-a.ensures _ c.as_chunks.ensures.front)

pub put_user-requires : goal.put_user-requires
put_user-requires c = search items_laws

pub returns : goal.returns
returns c = search items_laws
