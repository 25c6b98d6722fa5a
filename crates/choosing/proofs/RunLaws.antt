-- Laws of runs: `chunk_by` gives as many as there are contexts.
-- Assumes nothing.
use Rattle.std.proofs.Common.{ℕ, suc, List, [], ◌∷◌, ◌++◌, ◌≡◌, ◌<◌, Bor, Bool, None, length, refl, sym, ap, ◌∙◌, arith}
use mathlib.Core.Path.{subst}
use denote.Param.Members.{Mut}
use Rattle.std.specs.Fn.{ComputesOnPairs}
use Rattle.std.specs.List.{IsChunkByPrefix}
use Rattle.std.specs.Iterator.{Drains, Yields}
use Rattle.std.specs.declared.slice.ChunkBy.{ChunkBy}
use Rattle.std.specs.Slice.Iter.{chunk_by_steps, chunk_by_rest, chunk_by_callee}
use Rattle.sheets.specs.Sheet.{sheet_runs}
use Rattle.sheets.specs.Record.{same_run}
use Rattle.sheets.specs.Private.OneRecord.{run_context}
use Rattle.sheets.proofs.RunLaws.{run_front}

pub no_runs : (rs : List (List ℕ)) → length rs ≡ 0 → sheet_runs rs ≡ []
unfolding sheet_runs
no_runs [] h = refl
no_runs (r ∷ rs) h = absurd (omega arith)

-- the first run, in front of what is left
pub first_run : (rs x more : List (List ℕ)) → rs ≡ x ++ more → 0 < length x → IsChunkByPrefix same_run rs (length x) → sheet_runs rs ≡ run_context x ∷ sheet_runs more
first_run rs x more e h p = rw e (run_front x more h (subst (λ (l : List (List ℕ)). IsChunkByPrefix same_run l (length x)) e p))

module _ {F : Type 0} (g : Mut F (Bor (List ℕ) × (Bor (List ℕ) × Unit {0})) Bool) where
  runs_from : (xs : List (Bor (List (List ℕ)))) (s t u : ChunkBy (List ℕ) F) → ComputesOnPairs g same_run (chunk_by_callee s) → Yields (chunk_by_steps g) s xs t → chunk_by_steps g t None u → length xs ≡ length (sheet_runs (chunk_by_rest s))
  runs_from [] s t u c y n = sym (ap length (no_runs (chunk_by_rest s) (ap (λ (q : ChunkBy (List ℕ) F). length (chunk_by_rest q)) y ∙ n.0)))
  runs_from (x ∷ xs) s t u c y n =
      let k = y.1.2 same_run c in
      ap suc (runs_from xs y.0 t u k.0 y.2 n) ∙ sym (ap length (first_run (chunk_by_rest s) x.now (chunk_by_rest y.0) y.1.0 y.1.1 k.1))

  pub runs_count : (s : ChunkBy (List ℕ) F) (xs : List (Bor (List (List ℕ)))) → Drains (chunk_by_steps g) s xs → ComputesOnPairs g same_run (chunk_by_callee s) → length xs ≡ length (sheet_runs (chunk_by_rest s))
  runs_count s xs d c = runs_from xs s d.1.0 d.0 c d.1.1 d.1.2
