use Rattle.std.proofs.Common.{◌≡◌, Bool, true, false, cond, ◌&&◌, ◌||◌, List, ℕ, refl, ◌∙◌, Bor}
use Rattle.std.specs.Prelude.{bytes_eq}
use Rattle.ask_names.specs.NamePairs.{has_pair}
use Rattle.ask_names.proofs.pairs.NamePairs.insert.Goals as goal

or_cond : (a b : Bool) → cond a true b ≡ (b || a)
or_cond true true = refl
or_cond true false = refl
or_cond false true = refl
or_cond false false = refl

pub returns : goal.returns
returns c = record {
  each = λ one other.
      let first : Bor (List ℕ) = record { ref_ptr = (0, 0); now = one } in
      let second : Bor (List ℕ) = record { ref_ptr = (0, 0); now = other } in
      c.in_ok-insert.ensures.updates.0 (first, second)
      ∙ or_cond (bytes_eq c.args.first.now one && bytes_eq c.args.second.now other) (has_pair c.args.self.now one other);
}
