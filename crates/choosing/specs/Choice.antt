-- The answer to a proposed context, by the site's records: "A context whose abstract name isn't on the site's sheet gets result 3; one whose abstract name is there but with no common
-- transfer name gets 4; otherwise result 0 with the first site record that matches .." A refused context has no transfer name: "E1 writes it that way too".
use Rattle.std.specs.Prelude.{ℕ, Bool, ◌&&◌, cond, List, [], ◌∷◌, map}
use Rattle.laws.specs.Lists.{any, same_bytes}
use Rattle.numbers.specs.Results.{ACCEPTED, ABSTRACT-NOT-SUPPORTED, TRANSFER-NOT-SUPPORTED}
use Rattle.sheets.specs.Contexts.{Context, Answered}
use Rattle.sheets.specs.Sheet.{abstract_of, transfer_of, records_of}

-- ---- the site's records

-- an abstract name, and a transfer name that the site takes for it
pub record Liked : Type 0 where
  pub abstr : List ℕ
  pub transfer : List ℕ

unfoldable pub liked_of : List ℕ → Liked
liked_of r = record { abstr = abstract_of r; transfer = transfer_of r }

-- those of a site's sheet, "best liked first"
unfoldable pub site_in : List ℕ → List Liked
site_in s = map liked_of (records_of s)

-- ---- the answer to one context

-- the record has the context's abstract name
unfoldable pub same_abstract : Context → Liked → Bool
same_abstract c w = same_bytes w.abstr c.abstr

-- the transfer name x was proposed for the context
unfoldable pub was_proposed : Context → List ℕ → Bool
was_proposed c x = any (same_bytes x) c.transfers

-- the record matches: its abstract name is the context's, and its transfer name was proposed for it
unfoldable pub matches : Context → Liked → Bool
matches c w = same_abstract c w && was_proposed c w.transfer

unfoldable pub result_for : Context → List Liked → ℕ
result_for c ws = cond (any (matches c) ws) ACCEPTED (cond (any (same_abstract c) ws) TRANSFER-NOT-SUPPORTED ABSTRACT-NOT-SUPPORTED)

-- the transfer name of the first record that matches, and none where none does
unfoldable pub transfer_for : Context → List Liked → List ℕ
transfer_for c [] = []
transfer_for c (w ∷ ws) = cond (matches c w) w.transfer (transfer_for c ws)

unfoldable pub chosen : List Liked → Context → Answered
chosen ws c = record { id = c.id; result = result_for c ws; transfer = transfer_for c ws }

-- "one record per proposed context in its order"
unfoldable pub chosen_for : List Liked → List Context → List Answered
chosen_for ws cs = map (chosen ws) cs
