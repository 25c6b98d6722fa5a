-- A step of the iterator.
use Rattle.std.proofs.Common.{rules, ◌≡◌, ◌<◌, length, refl, arith}
use Rattle.items.proofs.StepLaws.{there, broken_there, none_left, done_there, step_rules}
use Rattle.items.proofs.ItemsIterator.next.Goals as goal

pub returns-then-is_empty-clause-steps : goal.returns-then-is_empty-clause-steps
returns-then-is_empty-clause-steps c =
    let l : length c.args.self.now.rest.now ≡ 0 = search rules in
    record { walk = done_there _ l; rest = record { block = refl; place = omega arith; bytes = none_left _ l } }

pub returns-in_default-clause-steps : goal.returns-in_default-clause-steps
returns-in_default-clause-steps c =
    let l : 0 < length c.args.self.now.rest.now = search rules in
    (record { walk = broken_there _ c.in_default.ensures l; rest = record { block = refl; place = omega arith; bytes = refl } }, l)

pub slice_bounds-self-count : goal.slice_bounds-self-count
slice_bounds-self-count c = search step_rules

pub slice_bounds-self-start : goal.slice_bounds-self-start
slice_bounds-self-start c = search step_rules

pub slice_bounds-result-count : goal.slice_bounds-result-count
slice_bounds-result-count c = search step_rules

pub slice_bounds-result-start : goal.slice_bounds-result-start
slice_bounds-result-start c = search step_rules

pub slice_bounds-result-end : goal.slice_bounds-result-end
slice_bounds-result-end c = search step_rules

pub returns-clause-steps : goal.returns-clause-steps
returns-clause-steps c =
    let f = there c.args.self.now.rest.now c.in-Some.end c.in-Some.ensures in
    record {
      walk = f.eq;
      body = record { block = refl; place = omega arith; bytes = refl };
      rest = record { block = refl; place = omega arith; bytes = f.rest };
      whole = omega arith;
    }
