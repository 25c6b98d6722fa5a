-- The results of an answered context, in the words of PS3.8 Table 9-18. Every other than the first refuses it.
use Rattle.std.specs.Prelude.{ℕ}

-- "acceptance"
abbrev pub ACCEPTED : ℕ
ACCEPTED = 0

-- "abstract-syntax-not-supported (provider rejection)"
abbrev pub ABSTRACT-NOT-SUPPORTED : ℕ
ABSTRACT-NOT-SUPPORTED = 3

-- "transfer-syntaxes-not-supported (provider rejection)"
abbrev pub TRANSFER-NOT-SUPPORTED : ℕ
TRANSFER-NOT-SUPPORTED = 4
