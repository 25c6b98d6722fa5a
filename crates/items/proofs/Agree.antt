-- Any two permitted answers agree, for each public function; of a slice that is handed back, where it lies and its bytes.
-- Assumes nothing.
use Rattle.laws.proofs.Agree.{agree, Agrees, AgreesPart}
use mathlib.Core.List.{List}
use mathlib.Core.Path.{◌≡◌, ap}
use Prim.Native.Nat.{ℕ}
use contract.Lifetimes.{Lfts}
use denote.Ref.{Bor}
use denote.Triple.Clauses.{AtExit}
use borrow.Fn.Kinds.{Dens, res_t, ended_of}
use Rattle.std.specs.Prelude.{Option, Some, None, Result, Ok, Err}
use Rattle.octets.proofs.SliceLaws.{parts_agree}
use Rattle.items.specs.declared.Item.{Item}
use Rattle.items.specs.declared.Items.{Items}
use Rattle.items.specs.declared.Broken.{Broken}
use Rattle.items.specs.Steps.{rest_of, Steps}
use Rattle.items.proofs.item_end as item-end
use Rattle.items.proofs.Items.of as of
use Rattle.items.proofs.ItemsIterator.next as next
use Rattle.items.proofs.fills as fills
use Rattle.items.proofs.count_of as count_of
use Rattle.items.proofs.first_of as first_of
use Rattle.items.proofs.place_of as place_of

pub item_end_agrees : Agrees 1 item-end.Kinds.ps item-end.Kinds.r item-end.Reads.Post
item_end_agrees κs args a b x y p q = agree p q

pub fills_agrees : Agrees 1 fills.Kinds.ps fills.Kinds.r fills.Reads.Post
fills_agrees κs args a b x y p q = agree p q

pub count_of_agrees : Agrees 1 count_of.Kinds.ps count_of.Kinds.r count_of.Reads.Post
count_of_agrees κs args a b x y p q = agree p q

pub first_of_agrees : AgreesPart 1 first_of.Kinds.ps first_of.Kinds.r first_of.Reads.Post (λ κs a. a)
first_of_agrees κs args a b x y p q = parts_agree p q

pub place_of_agrees : Agrees 1 place_of.Kinds.ps place_of.Kinds.r place_of.Reads.Post
place_of_agrees κs args a b x y p q = agree p q

pub of_agrees : Agrees 1 of.Kinds.ps of.Kinds.r of.Reads.Post
of_agrees κs args a b x y p q = ap (λ (r : Bor (List ℕ)). let i : Items = record { rest = r } in i) (agree p q)

-- of a step: the same part left, and the same item, or both no whole item, or both the end
abbrev same_part : Bor (List ℕ) → Bor (List ℕ) → Type 0
same_part a b = (a.ref_ptr ≡ b.ref_ptr) × (a.now ≡ b.now)

abbrev same_item : Option (Result Item Broken) → Option (Result Item Broken) → Type 0
same_item None None = Unit {0}
same_item None (Some b) = ⊥
same_item (Some a) None = ⊥
same_item (Some (Err a)) (Some (Err b)) = Unit {0}
same_item (Some (Err a)) (Some (Ok b)) = ⊥
same_item (Some (Ok a)) (Some (Err b)) = ⊥
same_item (Some (Ok a)) (Some (Ok b)) = (a.kind ≡ b.kind) × same_part a.body b.body

steps_agree : (s t u : Items) (a b : Option (Result Item Broken)) → Steps s a t → Steps s b u → same_item a b × same_part (rest_of t) (rest_of u)
steps_agree s t u None None p q = (tt, parts_agree p.rest q.rest)
steps_agree s t u None (Some (Ok b)) p q = let f = p.walk in let g = q.walk in absurd (cc)
steps_agree s t u None (Some (Err b)) p q = let f = p.walk in let g = q.0.walk in absurd (cc)
steps_agree s t u (Some (Ok a)) None p q = let f = p.walk in let g = q.walk in absurd (cc)
steps_agree s t u (Some (Err a)) None p q = let f = p.0.walk in let g = q.walk in absurd (cc)
steps_agree s t u (Some (Err a)) (Some (Err b)) p q = (tt, parts_agree p.0.rest q.0.rest)
steps_agree s t u (Some (Err a)) (Some (Ok b)) p q = let f = p.0.walk in let g = q.walk in absurd (cc)
steps_agree s t u (Some (Ok a)) (Some (Err b)) p q = let f = p.walk in let g = q.0.walk in absurd (cc)
steps_agree s t u (Some (Ok a)) (Some (Ok b)) p q =
    let f = p.walk in
    let g = q.walk in
    let k : a.kind ≡ b.kind = cc in
    let e : a.body.now ≡ b.body.now = cc in
    ((k, parts_agree p.body (record { block = q.body.block; place = q.body.place; bytes = cc })), parts_agree p.rest (rw (← e) at q.rest))

pub next_agrees : (κs : Lfts 2) (args : Dens κs next.Kinds.ps) (a b : (res_t next.Kinds.r κs).Denot) (x y : AtExit (ended_of 2 next.Kinds.ps next.Kinds.r) κs)
    → next.Reads.Post κs args a x → next.Reads.Post κs args b y → same_item a b × same_part (rest_of x.0.now) (rest_of y.0.now)
next_agrees κs args a b x y p q = steps_agree args.0.now x.0.now y.0.now a b p.0 q.0
