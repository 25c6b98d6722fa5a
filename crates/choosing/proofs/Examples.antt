-- Worked examples of the choice: antt computes both sides.
-- Assumes nothing.
use Prim.Native.Nat.{ℕ}
use mathlib.Core.List.{List, [], ◌∷◌, ◌++◌}
use mathlib.Core.Path.{◌≡◌, refl}
use lib.ListN.{take}
use Rattle.laws.specs.Text.{bytes}
use Rattle.sheets.specs.Sheet.{record_bytes, answer_sheet_of, site_record, site_ok}
use Rattle.sheets.proofs.Examples.{sheets_open}
use Rattle.choosing.specs.Choice.{liked_of, site_in, same_abstract, was_proposed, matches, result_for, transfer_for, chosen, chosen_for}
use Rattle.choosing.specs.Call.{chosen_sheet, choose_refusal}

-- what the definitions of choosing compute with, by one name for an `unfolding` line
unfoldable choosing_open : Unit {0}
unfolding sheets_open site_record site_ok answer_sheet_of liked_of site_in same_abstract was_proposed matches result_for transfer_for chosen chosen_for chosen_sheet choose_refusal
choosing_open = tt

abbrev cr_image : List ℕ
cr_image = bytes "1.2.840.10008.5.1.4.1.1.1"

-- goes on where the name before it ends
abbrev digital_x_ray : List ℕ
digital_x_ray = bytes "1.2.840.10008.5.1.4.1.1.1.1"

abbrev implicit : List ℕ
implicit = bytes "1.2.840.10008.1.2"

abbrev explicit : List ℕ
explicit = bytes "1.2.840.10008.1.2.1"

abbrev jpeg : List ℕ
jpeg = bytes "1.2.840.10008.1.2.4.50"

-- implicit, then explicit, for one context
abbrev proposal : List ℕ
proposal = record_bytes 1 0 cr_image implicit ++ record_bytes 1 0 cr_image explicit

-- the site's order decides, not the proposal's
pub site_order : chosen_sheet proposal (record_bytes 0 0 cr_image explicit ++ record_bytes 0 0 cr_image implicit) ≡ record_bytes 1 0 [] explicit
unfolding choosing_open
site_order = refl

-- a better-liked name that was not proposed is passed
pub not_proposed : chosen_sheet proposal (record_bytes 0 0 cr_image jpeg ++ record_bytes 0 0 cr_image explicit) ≡ record_bytes 1 0 [] explicit
unfolding choosing_open
not_proposed = refl

-- no common transfer name: 4; the abstract name on no record: 3. Neither carries a transfer name
pub no_common_name : chosen_sheet proposal (record_bytes 0 0 cr_image jpeg ++ record_bytes 0 0 digital_x_ray implicit) ≡ record_bytes 1 4 [] []
unfolding choosing_open
no_common_name = refl

pub no_abstract_name : chosen_sheet proposal (record_bytes 0 0 digital_x_ray implicit) ≡ record_bytes 1 3 [] []
unfolding choosing_open
no_abstract_name = refl

-- two contexts of one abstract name stay two, each with its own answer
pub two_contexts : chosen_sheet (record_bytes 5 0 cr_image explicit ++ record_bytes 3 0 cr_image jpeg) (record_bytes 0 0 cr_image explicit) ≡ record_bytes 5 0 [] explicit ++ record_bytes 3 4 [] []
unfolding choosing_open
two_contexts = refl

-- room for one context is enough for two records of it; a byte less is not; a bad site's sheet is told before that
pub exact_room : choose_refusal proposal (record_bytes 0 0 cr_image implicit) 132 ≡ 0
unfolding choosing_open
exact_room = refl

pub byte_less : choose_refusal proposal (record_bytes 0 0 cr_image implicit) 131 ≡ 2
unfolding choosing_open
byte_less = refl

pub bad_before_short : choose_refusal proposal (record_bytes 0 3 cr_image implicit) 0 ≡ 4
unfolding choosing_open
bad_before_short = refl

-- a site's sheet: not without a record, no part record, no ID, no unused byte that is not zero; a record may come again
pub site_none : choose_refusal proposal [] 132 ≡ 4
unfolding choosing_open
site_none = refl

pub site_part : choose_refusal proposal (record_bytes 0 0 cr_image implicit ++ (0 ∷ [])) 132 ≡ 4
unfolding choosing_open
site_part = refl

pub site_id : choose_refusal proposal (record_bytes 1 0 cr_image implicit) 132 ≡ 4
unfolding choosing_open
site_id = refl

pub site_unused : choose_refusal proposal (take 131 (record_bytes 0 0 cr_image implicit) ++ (7 ∷ [])) 132 ≡ 4
unfolding choosing_open
site_unused = refl

pub site_again : choose_refusal proposal (record_bytes 0 0 cr_image implicit ++ record_bytes 0 0 cr_image implicit) 132 ≡ 0
unfolding choosing_open
site_again = refl
