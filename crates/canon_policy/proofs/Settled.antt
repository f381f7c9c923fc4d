-- The fixings into which nothing fixed is split are settled.
use Rattle.std.proofs.Common.{◌≡◌, ℕ, zero, suc, ◌≤◌, List, [], ◌∷◌, ◌++◌, length, Option, Some, None, refl, arith}
use Rattle.std.specs.List.{AllByRecursion}
use Rattle.std.specs.Option.{option_map_or}
use Rattle.base_kit.specs.Sets.{with_number}
use Rattle.canon_policy.specs.declared.fixing.Fixing.{Fixing}
use Rattle.canon_policy.specs.Fixings.{Asked, nothing_fixed, with_present, with_absent, split, settled}
use Rattle.canon_policy.specs.Hanging.{AskedHangsOn}
use Rattle.canon_policy.proofs.Plain.{more_agrees}
use Rattle.canon_policy.proofs.SameSets.{Agrees}
use Rattle.canon_policy.proofs.Splits.{split_free, none_free, count_free, count_free-start, fewer_present, fewer_absent}
use Rattle.canon_policy.proofs.Verdicts.{agrees_present, agrees_absent, now_present}

-- nothing splits it, and the set of what it has present agrees with it
pub record IsSettledBy (universe : List ℕ) (asked : Asked) (fixing : Fixing) : Type 0 where
  pub settled : split universe asked fixing ≡ None
  pub agrees : Agrees fixing fixing.present

pub all_append : {X : Type 0} (P : X → Type 0) (xs ys : List X) → AllByRecursion P xs → AllByRecursion P ys → AllByRecursion P (xs ++ ys)
all_append P [] ys all more = more
all_append P (x ∷ xs) ys all more = (all.0, all_append P xs ys all.1 more)

module _ (universe : List ℕ) (asked : Asked) (hang : AskedHangsOn universe asked) where
  abbrev Settles : ℕ → Type 0
  Settles depth = (fixing : Fixing) → count_free universe fixing ≤ depth → Agrees fixing fixing.present
      → AllByRecursion (IsSettledBy universe asked) (settled depth (split universe asked) fixing)

  settle_by : (depth : ℕ) → Settles depth → (fixing : Fixing) → count_free universe fixing ≤ suc depth → Agrees fixing fixing.present → (o : Option ℕ)
      → split universe asked fixing ≡ o
      → AllByRecursion (IsSettledBy universe asked) (option_map_or
      (λ c. settled depth (split universe asked) (with_present c fixing) ++ settled depth (split universe asked) (with_absent c fixing)) o (fixing ∷ []))
  settle_by depth rest fixing enough agrees None e = (record { settled = e; agrees = agrees }, tt)
  settle_by depth rest fixing enough agrees (Some x) e =
      let free = split_free universe asked fixing x hang e in
      let less = fewer_present universe fixing x free in
      let fewer = fewer_absent universe fixing x free in
      all_append (IsSettledBy universe asked) (settled depth (split universe asked) (with_present x fixing))
      (settled depth (split universe asked) (with_absent x fixing))
      (rest (with_present x fixing) (omega arith) (agrees_present fixing x (with_number x fixing.present) (more_agrees fixing x agrees free.not_absent)
      (now_present fixing x)))
      (rest (with_absent x fixing) (omega arith) (agrees_absent fixing x fixing.present agrees free.not_present))

  settles : (depth : ℕ) → Settles depth
  unfolding settled
  settles zero fixing enough agrees = (record { settled = none_free universe asked fixing hang enough; agrees = agrees }, tt)
  settles (suc depth) fixing enough agrees = settle_by depth (settles depth) fixing enough agrees (split universe asked fixing) refl

  pub all_settled : AllByRecursion (IsSettledBy universe asked) (settled (length universe) (split universe asked) nothing_fixed)
  all_settled = settles (length universe) nothing_fixed (count_free-start universe) (record { present = λ c h. h; absent = λ c h. refl })
