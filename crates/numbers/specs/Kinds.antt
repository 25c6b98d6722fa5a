-- The seven PDUs by kind, which is the type byte that each has: document 01, 'Valid PDUs'.
use Rattle.std.specs.Prelude.{ℕ, ◌≡◌, false, ◌&&◌, leb, Option, None, Some, Result, MatchResult}
use Rattle.numbers.specs.declared.kinds.Kind.{Kind}
use Rattle.numbers.specs.declared.kinds.NoKind.{NoKind}
use Rattle.numbers.specs.declared.kinds.Kind.TheVariants.{AssociateRq, AssociateAc, AssociateRj, DataTf, ReleaseRq, ReleaseRp, Abort}

-- bytes that are none of them
abbrev pub NO-KIND : ℕ
NO-KIND = 0

abbrev pub ASSOCIATE-RQ : ℕ
ASSOCIATE-RQ = 0x01

abbrev pub ASSOCIATE-AC : ℕ
ASSOCIATE-AC = 0x02

abbrev pub ASSOCIATE-RJ : ℕ
ASSOCIATE-RJ = 0x03

abbrev pub DATA-TF : ℕ
DATA-TF = 0x04

abbrev pub RELEASE-RQ : ℕ
RELEASE-RQ = 0x05

abbrev pub RELEASE-RP : ℕ
RELEASE-RP = 0x06

abbrev pub ABORT : ℕ
ABORT = 0x07

-- ---- the code's kinds, by their type bytes
abbrev pub type_byte : Kind → ℕ
type_byte AssociateRq = ASSOCIATE-RQ
type_byte AssociateAc = ASSOCIATE-AC
type_byte AssociateRj = ASSOCIATE-RJ
type_byte DataTf = DATA-TF
type_byte ReleaseRq = RELEASE-RQ
type_byte ReleaseRp = RELEASE-RP
type_byte Abort = ABORT

-- 0 for none
abbrev pub kind_number : Option Kind → ℕ
kind_number None = NO-KIND
kind_number (Some k) = type_byte k

-- a type byte was looked up: the kind that has it, or that it is none's
abbrev pub Found : ℕ → Result Kind NoKind → Type 0
Found byte r = MatchResult r (λ k. type_byte k ≡ byte) (λ e. leb ASSOCIATE-RQ byte && leb byte ABORT ≡ false)
