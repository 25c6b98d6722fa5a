-- The rule of names at worked examples, computed by antt. Those of document 01 are in `cases`, case 10.
-- Assumes nothing.
use mathlib.Core.Path.{◌≡◌, refl}
use mathlib.Core.Bool.{true, false}
use Rattle.laws.specs.Text.{bytes}
use Rattle.names.specs.Name.{name_ok}

-- the application context name of case 3; a leading zero; a trailing NUL
application_context : name_ok (bytes "1.2.840.10008.3.1.1.1") ≡ true
unfolding name_ok
application_context = refl

leading_zero : name_ok (bytes "1.2.840.010008.1.1") ≡ false
unfolding name_ok
leading_zero = refl

trailing_null : name_ok (bytes "1.2.840.10008.1.2\0") ≡ false
unfolding name_ok
trailing_null = refl
