use Rattle.std.proofs.Common.{◌≡◌, Bool, true, false, cond, ◌||◌, List, ℕ, refl, sym, ap, ◌∙◌, Bor}
use Rattle.std.specs.Prelude.{bytes_eq}
use Rattle.numbered_names.specs.NameSets.{has_name}
use Rattle.numbered_names.proofs.Firsts.{bytes_eq-sym}
use Rattle.numbered_names.proofs.sets.NameSet.insert.Goals as goal

or_cond : (a b : Bool) → (a || b) ≡ cond a true b
or_cond true b = refl
or_cond false b = refl

pub returns-clause-adds : goal.returns-clause-adds
returns-clause-adds c = record {
  each = λ other.
      let name = c.args.name.now in
      let old = c.args.self.now in
      let at : Bor (List ℕ) = record { ref_ptr = (0, 0); now = other } in
      c.in_ok-is_new.ensures.updates.0 at
      ∙ ap (λ b. cond b true (has_name old other)) (bytes_eq-sym name other)
      ∙ sym (or_cond (bytes_eq other name) (has_name old other));
}
