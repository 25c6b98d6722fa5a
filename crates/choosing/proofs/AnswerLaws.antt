-- Laws of the answer to one context: the transfer names of its run, and the loop over the site's records.
-- Assumes nothing.
use Prim.Native.Nat.{ℕ, suc, ◌+◌, ◌≤◌, ◌<◌}
use native.Mathlib.Omega.{arith}
use native.Mathlib.Numerals.{add-one}
use mathlib.Core.Bool.{Bool, true, false, cond}
use mathlib.Core.List.{List, [], ◌∷◌, map}
use mathlib.Core.Path.{◌≡◌, refl, sym, ap, ◌∙◌}
use lib.ListN.{length, drop, get_or}
use lib.Seq.{drop-cons}
use Rattle.std.specs.List.{list_any}
use Rattle.std.proofs.lemmas.List.{drop_all}
use Rattle.laws.specs.Lists.{any, same_bytes}
use Rattle.numbers.specs.Results.{ACCEPTED, ABSTRACT-NOT-SUPPORTED, TRANSFER-NOT-SUPPORTED}
use Rattle.sheets.specs.Contexts.{Context}
use Rattle.sheets.specs.Sheet.{record_id, abstract_of, transfer_of}
use Rattle.sheets.specs.Record.{record_of, abstract_at, transfer_at}
use Rattle.sheets.specs.Private.OneRecord.{run_context}
use Rattle.sheets.proofs.RecordLaws.{abstract_first, transfer_first, transfer_most, record_whole}
use Rattle.choosing.specs.Choice.{Liked, liked_of, same_abstract, was_proposed, matches, result_for, transfer_for, chosen}
use Rattle.choosing.specs.Private.Runs.{result_from, answer_bytes}

-- ---- `was_proposed`
pub any_transfer : (x : List ℕ) (run : List (List ℕ)) → list_any (λ r. same_bytes x (transfer_at r 0)) run ≡ any (same_bytes x) (map (λ r. transfer_at r 0) run)
any_transfer x [] = refl
any_transfer x (r ∷ run) = rw (any_transfer x run)

-- ---- over the site's records: those from ws on, with the result of those before, say what all of them say
pub record Looking (c : Context) (all : List Liked) (result : ℕ) (ws : List Liked) : Type 0 where
  pub same_result : result_for c all ≡ result_from result c ws
  pub same_transfer : transfer_for c all ≡ transfer_for c ws

pub look_start : (c : Context) (all : List Liked) → Looking c all ABSTRACT-NOT-SUPPORTED all
unfolding result_for result_from
look_start c all = record { same_result = refl; same_transfer = refl }

module _ (c : Context) (all ws : List Liked) (result : ℕ) (w : Liked) (v : Looking c all result (w ∷ ws)) where
  other : same_abstract c w ≡ false → Looking c all result ws
  unfolding result_from matches transfer_for
  other e = record { same_result = v.same_result ∙ rw e; same_transfer = v.same_transfer ∙ rw e }

  close : same_abstract c w ≡ true → was_proposed c w.transfer ≡ false → Looking c all TRANSFER-NOT-SUPPORTED ws
  unfolding result_from matches transfer_for
  close e p = record { same_result = v.same_result ∙ rw (e, p) (go (any (matches c) ws) (any (same_abstract c) ws)); same_transfer = v.same_transfer ∙ rw (e, p) }
    where
      go : (m s : Bool) → cond m ACCEPTED TRANSFER-NOT-SUPPORTED ≡ cond m ACCEPTED (cond s TRANSFER-NOT-SUPPORTED TRANSFER-NOT-SUPPORTED)
      go true s = refl
      go false true = refl
      go false false = refl

  met_result : same_abstract c w ≡ true → was_proposed c w.transfer ≡ true → result_for c all ≡ ACCEPTED
  unfolding result_from matches
  met_result e p = v.same_result ∙ rw (e, p)

  met_transfer : same_abstract c w ≡ true → was_proposed c w.transfer ≡ true → transfer_for c all ≡ w.transfer
  unfolding transfer_for matches
  met_transfer e p = v.same_transfer ∙ rw (e, p)

end_result : (c : Context) (all : List Liked) (result : ℕ) → Looking c all result [] → result_for c all ≡ result
unfolding result_from
end_result c all result v = v.same_result

end_transfer : (c : Context) (all : List Liked) (result : ℕ) → Looking c all result [] → transfer_for c all ≡ []
unfolding transfer_for
end_transfer c all result v = v.same_transfer

-- ---- `answer_to`: records of 132 bytes
abbrev pub Whole : List (List ℕ) → Type 0
Whole rs = (k : ℕ) → k < length rs → length (get_or rs k []) ≡ 132

transfers_are : (run : List (List ℕ)) → Whole run → map (λ r. transfer_at r 0) run ≡ map transfer_of run
transfers_are [] l = refl
transfers_are (r ∷ run) l =
    let e : transfer_at r 0 ≡ transfer_of r = transfer_first r (l 0 (omega arith)) in
    let i = transfers_are run (λ k h. l (suc k) (omega arith)) in
    λ j. e j ∷ i j

module _ (run : List (List ℕ)) (l : Whole run) (some : 0 < length run) where
  context_is : (run_context run).transfers ≡ map (λ r. transfer_at r 0) run
  unfolding run_context
  context_is = go run l some
    where
      go : (rs : List (List ℕ)) → Whole rs → 0 < length rs → (run_context rs).transfers ≡ map (λ r. transfer_at r 0) rs
      go [] l h = absurd (omega arith)
      go (r ∷ rs) l h = sym (transfers_are (r ∷ rs) l)

  abstract_is : abstract_at (get_or run 0 []) 0 ≡ (run_context run).abstr
  unfolding run_context
  abstract_is = abstract_first (get_or run 0 []) (l 0 some) ∙ go run some
    where
      go : (rs : List (List ℕ)) → 0 < length rs → abstract_of (get_or rs 0 []) ≡ (run_context rs).abstr
      go [] h = absurd (omega arith)
      go (r ∷ rs) h = refl

  id_is : get_or (get_or run 0 []) 0 0 ≡ (run_context run).id
  unfolding run_context
  id_is = go run some
    where
      go : (rs : List (List ℕ)) → 0 < length rs → record_id (get_or rs 0 []) ≡ (run_context rs).id
      go [] h = absurd (omega arith)
      go (r ∷ rs) h = refl

  module _ (site : List (List ℕ)) (m : Whole site) (result i : ℕ) (v : Looking (run_context run) (map liked_of site) result (map liked_of (drop i site))) where
    module _ (h : i < length site) (a d : List ℕ) (b : Bool) (e : a ≡ abstract_at (get_or site i []) 0) (f : d ≡ abstract_at (get_or run 0 []) 0) (q : b ≡ same_bytes a d) where
      here : map liked_of (drop i site) ≡ liked_of (get_or site i []) ∷ map liked_of (drop (i + 1) site)
      here = let e : drop i site ≡ get_or site i [] ∷ drop (i + 1) site = rw add-one (drop-cons site i [] h) in ap (map liked_of) e

      at_it : Looking (run_context run) (map liked_of site) result (liked_of (get_or site i []) ∷ map liked_of (drop (i + 1) site))
      at_it = rw here at v

      same_is : same_abstract (run_context run) (liked_of (get_or site i [])) ≡ b
      unfolding same_abstract liked_of
      same_is = sym (q ∙ rw (e, f, abstract_first (get_or site i []) (m i h), abstract_is))

      pub next_other : b ≡ false → Looking (run_context run) (map liked_of site) result (map liked_of (drop (i + 1) site))
      next_other t = other (run_context run) (map liked_of site) (map liked_of (drop (i + 1) site)) result (liked_of (get_or site i [])) at_it (same_is ∙ t)

      module _ (t : b ≡ true) (x : List ℕ) (g : Bool) (y : x ≡ transfer_at (get_or site i []) 0) (p : g ≡ any (same_bytes x) (map (λ r. transfer_at r 0) run)) where
        name_is : (liked_of (get_or site i [])).transfer ≡ x
        unfolding liked_of
        name_is = sym (y ∙ transfer_first (get_or site i []) (m i h))

        proposed_is : was_proposed (run_context run) (liked_of (get_or site i [])).transfer ≡ g
        unfolding was_proposed
        proposed_is = rw (name_is, context_is) (sym p)

        pub next_close : g ≡ false → Looking (run_context run) (map liked_of site) TRANSFER-NOT-SUPPORTED (map liked_of (drop (i + 1) site))
        next_close u = close (run_context run) (map liked_of site) (map liked_of (drop (i + 1) site)) result (liked_of (get_or site i [])) at_it (same_is ∙ t) (proposed_is ∙ u)

        pub found : (z o : List ℕ) → g ≡ true → z ≡ transfer_at (get_or site i []) 0 → o ≡ record_of (get_or (get_or run 0 []) 0 0) ACCEPTED [] z → o ≡ answer_bytes (chosen (map liked_of site) (run_context run))
        unfolding answer_bytes chosen
        found z o u w r =
            let n = met_result (run_context run) (map liked_of site) (map liked_of (drop (i + 1) site)) result (liked_of (get_or site i [])) at_it (same_is ∙ t) (proposed_is ∙ u) in
            let s = met_transfer (run_context run) (map liked_of site) (map liked_of (drop (i + 1) site)) result (liked_of (get_or site i [])) at_it (same_is ∙ t) (proposed_is ∙ u) in
            let j : z ≡ transfer_of (get_or site i []) = w ∙ transfer_first (get_or site i []) (m i h) in
            let k : transfer_for (run_context run) (map liked_of site) ≡ z = s ∙ (name_is ∙ (y ∙ sym w)) in
            let fits : length z ≤ 64 = rw j (transfer_most (get_or site i [])) in
            r ∙ (record_whole (get_or (get_or run 0 []) 0 0) ACCEPTED [] z (omega arith) fits ∙ rw (n, k, id_is))

    pub none_found : (o : List ℕ) → length site ≤ i → o ≡ record_of (get_or (get_or run 0 []) 0 0) result [] [] → o ≡ answer_bytes (chosen (map liked_of site) (run_context run))
    unfolding answer_bytes chosen
    none_found o h r =
        let at_end : Looking (run_context run) (map liked_of site) result [] = rw (drop_all i site h) at v in
        r ∙ (record_whole (get_or (get_or run 0 []) 0 0) result [] [] (omega arith) (omega arith) ∙ rw (end_result (run_context run) (map liked_of site) result at_end, end_transfer (run_context run) (map liked_of site) result at_end, id_is))
