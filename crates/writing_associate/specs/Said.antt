-- The contents of the two calls, as the code has them.
use Rattle.user_items.specs.Sent.{user_said}
use Rattle.writing.specs.Fields.{RqFields, AcFields, rq_of, ac_of}
use Rattle.writing_associate.specs.declared.Request.{Request}
use Rattle.writing_associate.specs.declared.Accept.{Accept}

abbrev pub rq_said : Request → RqFields
rq_said f = rq_of f.called.now f.calling.now f.application.now (user_said f.user) f.sheet.now

abbrev pub ac_said : Accept → AcFields
ac_said f = ac_of f.echoed.now f.application.now (user_said f.user) f.sheet.now
