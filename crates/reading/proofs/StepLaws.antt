-- One step of the iterator of items, by the case that the code finds.
-- Assumes nothing.
use Rattle.std.proofs.Common.{◌≡◌, ◌∙◌, ap, subst}
use Rattle.std.specs.Prelude.{Option, None, Some, Result, Ok, Err}
use Rattle.items.specs.Items.{done, broken}
use Rattle.items.specs.Steps.{left, Gives, Steps}
use Rattle.items.specs.declared.Item.{Item}
use Rattle.items.specs.declared.Items.{Items}
use Rattle.items.specs.declared.Broken.{Broken}

module _ (s t : Items) (r : Option (Result Item Broken)) (w : Steps s r t) where
  so : (q : Option (Result Item Broken)) → r ≡ q → Steps s q t
  so q e = let P : Option (Result Item Broken) → Type 0 = λ o. Steps s o t in subst P e w

  module _ (q : Result Item Broken) (e : r ≡ Some q) where
    pub found : (i : Item) → q ≡ Ok i → Gives s i t
    found i f = so (Some (Ok i)) (e ∙ ap Some f)

    pub found_broken : (b : Broken) → q ≡ Err b → left s ≡ broken
    found_broken b f = (so (Some (Err b)) (e ∙ ap Some f)).0.walk

  pub found_none : r ≡ None → left s ≡ done
  found_none e = (so None e).walk
