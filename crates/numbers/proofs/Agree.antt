-- Any two permitted answers agree, for each public function. Assumes nothing.
use Rattle.laws.proofs.Agree.{agree, Agrees}
use Rattle.numbers.proofs.kinds.Kind.type_byte as type-byte
use Rattle.numbers.proofs.kinds.Kind.number as kind-number
use Rattle.numbers.proofs.refusals.Refusal.number as refusal-number

pub type_byte_agrees : Agrees 0 type-byte.Kinds.ps type-byte.Kinds.r type-byte.Reads.Post
type_byte_agrees κs args a b x y p q = agree p q

pub kind_number_agrees : Agrees 0 kind-number.Kinds.ps kind-number.Kinds.r kind-number.Reads.Post
kind_number_agrees κs args a b x y p q = agree p q

pub refusal_number_agrees : Agrees 0 refusal-number.Kinds.ps refusal-number.Kinds.r refusal-number.Reads.Post
refusal_number_agrees κs args a b x y p q = agree p q
