use Rattle.std.proofs.Common.{rules, ◌≡◌, true}
use Rattle.srp_core.specs.declared.starts.Start.{Start}
use Rattle.srp_core.specs.declared.starts.Start.TheVariants.{Alone, Silent, Preference, Cost}
use Rattle.srp_core.specs.contracts.starts.StartPartialEq.TheImpl.{eq-value}
use Rattle.distinct_values.proofs.Interned.{distinct_places, interned_at, interned_last}
use Rattle.srp_core.proofs.starts.Starts.number.Goals as goal

same_start : (start : Start) → eq-value.it start start ≡ true
same_start (Alone a) = search rules
same_start Silent = search rules
same_start (Preference a) = search rules
same_start (Cost a) = search rules

one_start : (x y : Start) → eq-value.it x y ≡ true → x ≡ y
one_start (Alone a) (Alone b) e = search rules
one_start (Alone a) Silent e = search rules
one_start (Alone a) (Preference b) e = search rules
one_start (Alone a) (Cost b) e = search rules
one_start Silent (Alone b) e = search rules
one_start Silent Silent e = search rules
one_start Silent (Preference b) e = search rules
one_start Silent (Cost b) e = search rules
one_start (Preference a) (Alone b) e = search rules
one_start (Preference a) Silent e = search rules
one_start (Preference a) (Preference b) e = search rules
one_start (Preference a) (Cost b) e = search rules
one_start (Cost a) (Alone b) e = search rules
one_start (Cost a) Silent e = search rules
one_start (Cost a) (Preference b) e = search rules
one_start (Cost a) (Cost b) e = search rules

pub invariant_of-self-2 : goal.invariant_of-self-2
invariant_of-self-2 c = distinct_places _ same_start _ c.in_ok-place.ensures.unique

pub returns-clause-distinct : goal.returns-clause-distinct
returns-clause-distinct c = distinct_places _ same_start _ c.in_ok-place.ensures.unique

pub returns-clause-found : goal.returns-clause-found
returns-clause-found c = rw (c.in_ok-place.ensures.entries, c.in_ok-place.ensures.index)
    (interned_at eq-value.it one_start c.args.start tt c.self.inside.items.entries)

pub returns-clause-grown : goal.returns-clause-grown
returns-clause-grown c = rw (c.in_ok-place.ensures.entries, ← c.self.view_is) (interned_last eq-value.it one_start c.args.start tt c.self.inside.items.entries)
