-- Any two permitted answers agree, for each public function, and so do the contents of the lent buffer.
-- Assumes nothing.
use Rattle.laws.proofs.Agree.{agree, Agrees, AgreesLent}
use Rattle.octets.proofs.byte_at as byte_at
use Rattle.octets.proofs.same_bytes as same_bytes
use Rattle.octets.proofs.be16_at as be16-at
use Rattle.octets.proofs.be32_at as be32-at
use Rattle.octets.proofs.two_of as two-of
use Rattle.octets.proofs.four_of as four-of
use Rattle.octets.proofs.put as put

pub byte_at_agrees : Agrees 1 byte_at.Kinds.ps byte_at.Kinds.r byte_at.Reads.Post
byte_at_agrees κs args a b x y p q = agree p q

pub same_bytes_agrees : Agrees 2 same_bytes.Kinds.ps same_bytes.Kinds.r same_bytes.Reads.Post
same_bytes_agrees κs args a b x y p q = agree p q

pub be16_at_agrees : Agrees 1 be16-at.Kinds.ps be16-at.Kinds.r be16-at.Reads.Post
be16_at_agrees κs args a b x y p q = agree p q

pub be32_at_agrees : Agrees 1 be32-at.Kinds.ps be32-at.Kinds.r be32-at.Reads.Post
be32_at_agrees κs args a b x y p q = agree p q

pub two_of_agrees : Agrees 0 two-of.Kinds.ps two-of.Kinds.r two-of.Reads.Post
two_of_agrees κs args a b x y p q = agree p q

pub four_of_agrees : Agrees 0 four-of.Kinds.ps four-of.Kinds.r four-of.Reads.Post
four_of_agrees κs args a b x y p q = agree p q

pub put_agrees : AgreesLent 2 put.Kinds.ps put.Kinds.r put.Reads.Post (λ κs x. x.0.now)
put_agrees κs args a b x y p q = (agree p.behind q.behind, agree p.out q.out)
