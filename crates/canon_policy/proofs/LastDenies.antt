-- The entries without those that deny at the end, and limits of a list.
use Rattle.std.proofs.Common.{◌≡◌, ◌+◌, ◌-◌, ◌<◌, ◌≤◌, Bool, true, false, ◌||◌, nat_lt, List, [], ◌∷◌, ◌++◌, length, Option, Some, None, refl, sym, ◌∙◌, ap, arith, inl, inr}
use Rattle.std.specs.Prelude.{if◌then◌else◌, remove}
use Rattle.std.specs.List.{list_any}
use Rattle.std.proofs.lemmas.Bool.Decides.{nat_tests}
use Rattle.std.proofs.lemmas.List.Edits.{remove-append_right}
use Rattle.route_maps.specs.declared.plain.Plain.{Plain}
use Rattle.route_maps.specs.declared.plain.PlainEntry.{PlainEntry}
use Rattle.canon_policy.specs.Canonical.{is_wide, put_before_entries, without_last_denies, limited}
use Rattle.canon_policy.specs.Made.{EndsInDeny}

-- the entries without those that deny at the end
put_more : (e : PlainEntry) (xs : List PlainEntry) (x : PlainEntry) → put_before_entries e (xs ++ x ∷ []) ≡ e ∷ (xs ++ x ∷ [])
put_more e [] x = refl
put_more e (y ∷ ys) x = refl

permit_stays : (xs : List PlainEntry) (x : PlainEntry) → x.permit ≡ true → without_last_denies (xs ++ x ∷ []) ≡ xs ++ x ∷ []
permit_stays [] x e = rw e refl
permit_stays (y ∷ ys) x e = ap (put_before_entries y) (permit_stays ys x e) ∙ put_more y ys x

deny_goes : (xs : List PlainEntry) (x : PlainEntry) → x.permit ≡ false → without_last_denies (xs ++ x ∷ []) ≡ without_last_denies xs
deny_goes [] x e = rw e refl
deny_goes (y ∷ ys) x e = ap (put_before_entries y) (deny_goes ys x e)

length_last : (xs : List PlainEntry) (x : PlainEntry) → length (xs ++ x ∷ []) ≡ length xs + 1
length_last [] x = omega arith
length_last (y ∷ ys) x = let e = length_last ys x in omega arith

pub without_removed : (xs : List PlainEntry) → EndsInDeny xs true → without_last_denies (remove xs (length xs - 1)) ≡ without_last_denies xs
without_removed xs ends =
    let size = length_last ends.before ends.last in
    let place : length (ends.before ++ ends.last ∷ []) - 1 ≡ length ends.before = omega arith in
    let zero_left : length ends.before - length ends.before ≡ 0 = omega arith in
    let gone : remove (ends.before ++ ends.last ∷ []) (length ends.before) ≡ ends.before =
    remove-append_right ends.before (ends.last ∷ []) (length ends.before) (length ends.before) refl (omega arith)
    ∙ ap (λ n. ends.before ++ remove (ends.last ∷ []) n) zero_left ∙ append_none ends.before in
    ap (λ (l : List PlainEntry). without_last_denies (remove l (length l - 1))) ends.split
    ∙ ap (λ n. without_last_denies (remove (ends.before ++ ends.last ∷ []) n)) place
    ∙ ap without_last_denies gone
    ∙ sym (deny_goes ends.before ends.last ends.permit_is)
    ∙ ap without_last_denies (sym ends.split)
  where
    append_none : (l : List PlainEntry) → l ++ [] ≡ l
    append_none [] = refl
    append_none (y ∷ ys) = ap (λ (l : List PlainEntry). y ∷ l) (append_none ys)

pub some_entry : (xs : List PlainEntry) → EndsInDeny xs true → 0 < length xs
some_entry xs ends = let size = length_last ends.before ends.last in let e = ap (λ (l : List PlainEntry). length l) ends.split in omega arith

pub none_to_drop : (xs : List PlainEntry) → EndsInDeny xs false → without_last_denies xs ≡ xs
none_to_drop xs (inl e) = ap without_last_denies e ∙ sym e
none_to_drop xs (inr ends) = ap without_last_denies ends.split ∙ permit_stays ends.before ends.last ends.permit_is ∙ sym ends.split

-- limits
pub limited_long : (entries : List PlainEntry) → 65535 < length entries → limited entries ≡ None
unfolding limited
limited_long entries lt = let e : nat_lt 65535 (length entries) ≡ true = grind (arith, nat_tests) in rw e refl

abbrev plain_of : List PlainEntry → Plain
plain_of l = record { entries = l }

pub limited_wide : (entries : List PlainEntry) → list_any is_wide entries ≡ true → limited entries ≡ None
unfolding limited
limited_wide entries e = rw e (by (nat_lt 65535 (length entries)) (Some (plain_of (without_last_denies entries))))
  where
    by : (b : Bool) (list : Option Plain) → (if b || true then None else list) ≡ None
    by true list = refl
    by false list = refl

pub limited_some : (entries : List PlainEntry) (list : Plain) → length entries ≤ 65535 → list_any is_wide entries ≡ false
    → list.entries ≡ without_last_denies entries → Some list ≡ limited entries
unfolding limited
limited_some entries list le e is =
    let short : nat_lt 65535 (length entries) ≡ false = grind (arith, nat_tests) in
    rw (short, e) (ap (λ (l : List PlainEntry). Some (plain_of l)) is)
