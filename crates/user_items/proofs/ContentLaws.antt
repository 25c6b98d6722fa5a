-- Whether the user information that a host gives may be sent: each way through the code.
-- Assumes nothing.
use Prim.Native.Nat.{ℕ}
use mathlib.Core.Bool.{true}
use mathlib.Core.Path.{◌≡◌}
use mir.Syntax.{w16}
use mir.Val.{Fits}
use borrow.Author.Tests.{lt-ltb}
use Rattle.user_items.specs.Sent.{count_ok}

-- ---- `user_good`
pub count_fits : (n : ℕ) → Fits w16 n → count_ok n ≡ true
unfolding count_ok
count_fits n f = lt-ltb n 65536 f.fits
