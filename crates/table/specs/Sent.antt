-- What the code answers for what an action sends, in the numbers of Actions.sends_number.
use Rattle.std.specs.Prelude.{ℕ}
use Rattle.table.specs.declared.sent.Sends.{Sends}
use Rattle.table.specs.declared.sent.Sends.TheVariants.{Nothing, Contents, RejectVersion, ReleaseRq, ReleaseRp, AbortUser, AbortProvider}

abbrev pub sent_number : Sends → ℕ
sent_number Nothing = 0
sent_number Contents = 1
sent_number RejectVersion = 2
sent_number ReleaseRq = 3
sent_number ReleaseRp = 4
sent_number AbortUser = 5
sent_number AbortProvider = 6
