-- Which routes have one key, by its parts.
use Rattle.std.proofs.Common.{◌≡◌, ◌≢◌, ℕ, Bool, true, false, ◌&&◌, List, [], ◌∷◌, length, refl, sym, ap, ◌∙◌, nat_eq, true≢false}
use Rattle.std.specs.Prelude.{bytes_eq, if◌then◌else◌}
use Rattle.std.proofs.lemmas.Bool.{eqb-true, eq-eqb}
use Rattle.std.proofs.lemmas.Slice.Eq.{bytes_eq-Decides}
use Rattle.base_kit.specs.Sets.{with_number}
use Rattle.base_kit.specs.declared.protocol.Protocol.{Protocol}
use Rattle.base_kit.specs.declared.protocol.Protocol.TheVariants.{Bgp as OverBgp, Ospf as OverOspf}
use Rattle.srp_core.specs.declared.route.Route.{Route}
use Rattle.srp_core.specs.declared.route.Route.TheVariants.{Bgp, Ospf}
use Rattle.srp_core.specs.Routes.{Key, path_of, chosen, key_by, IsRouteOf}
use Rattle.route_keys.specs.Keys.{key, key_with}
use Rattle.solution_lift.specs.Sides.{are_alike}

both_true : (a b : Bool) → a && b ≡ true → (a ≡ true) × (b ≡ true)
both_true true b e = (refl, e)
both_true false b e = absurd (true≢false (sym e))

and_true : (a b : Bool) → a ≡ true → b ≡ true → a && b ≡ true
and_true a b x y = ap (λ (c : Bool). c && b) x ∙ y

alike_keys : (r s : Route) (lone : List ℕ) → are_alike r s ≡ true → key_with r lone ≡ key_with s lone
alike_keys (Bgp lp path comms) (Bgp lp' path' comms') lone e =
    let first = both_true (nat_eq lp lp') (nat_eq (length path) (length path') && bytes_eq comms comms') e in
    let rest = both_true (nat_eq (length path) (length path')) (bytes_eq comms comms') first.1 in
    ap (λ (n : ℕ). key n (length path) comms lone) (eqb-true lp lp' first.0)
    ∙ ap (λ (n : ℕ). key lp' n comms lone) (eqb-true (length path) (length path') rest.0)
    ∙ ap (λ (cs : List ℕ). key lp' (length path') cs lone) ((bytes_eq-Decides comms comms').0 rest.1)
alike_keys (Bgp lp path comms) (Ospf cost) lone e = absurd (true≢false (sym e))
alike_keys (Ospf cost) (Bgp lp path comms) lone e = absurd (true≢false (sym e))
alike_keys (Ospf cost) (Ospf cost') lone e = ap (λ (n : ℕ). key 0 n [] lone) (eqb-true cost cost' e)

keys_alike : (p : Protocol) (r s : Route) (lone others : List ℕ) → IsRouteOf p r → IsRouteOf p s → key_with r lone ≡ key_with s others → are_alike r s ≡ true
keys_alike p (Bgp lp path comms) (Bgp lp' path' comms') lone others a b same =
    and_true (nat_eq lp lp') (nat_eq (length path) (length path') && bytes_eq comms comms') (eq-eqb lp lp' (ap (λ (k : Key). k.preference) same))
    (and_true (nat_eq (length path) (length path')) (bytes_eq comms comms') (eq-eqb (length path) (length path') (ap (λ (k : Key). k.size) same))
    ((bytes_eq-Decides comms comms').1 (ap (λ (k : Key). k.comms) same)))
keys_alike OverBgp (Bgp lp path comms) (Ospf cost) lone others a b same = absurd b
keys_alike OverOspf (Bgp lp path comms) (Ospf cost) lone others a b same = absurd a
keys_alike OverBgp (Ospf cost) (Bgp lp path comms) lone others a b same = absurd a
keys_alike OverOspf (Ospf cost) (Bgp lp path comms) lone others a b same = absurd b
keys_alike p (Ospf cost) (Ospf cost') lone others a b same = eq-eqb cost cost' (ap (λ (k : Key). k.size) same)

-- the same numbers are chosen by a test that answers alike
same_chosen : (test other : ℕ → Bool) → ((n : ℕ) → test n ≡ other n) → (path : List ℕ) → chosen test path ≡ chosen other path
unfolding chosen
same_chosen test other alike [] = refl
same_chosen test other alike (number ∷ path) =
    ap (λ (b : Bool). if b then with_number number (chosen test path) else chosen test path) (alike number)
    ∙ ap (λ (ns : List ℕ). if other number then with_number number ns else ns) (same_chosen test other alike path)

-- ---- what fits has the key, and what does not fit has another or came from elsewhere

module _ (test known : ℕ → Bool) (alike : (n : ℕ) → known n ≡ test n) (from : Bool) (r s : Route) (wanted : List ℕ)
    (wanted_is : wanted ≡ chosen known (path_of s)) where
  wanted_chosen : wanted ≡ chosen test (path_of s)
  wanted_chosen = wanted_is ∙ same_chosen known test alike (path_of s)

  found_chosen : chosen known (path_of r) ≡ chosen test (path_of r)
  found_chosen = same_chosen known test alike (path_of r)

  pub fit_has_key : (b : Bool) → b ≡ (from && (are_alike r s && bytes_eq (chosen known (path_of r)) wanted)) → b ≡ true →
      (from ≡ true) × (key_by test r ≡ key_by test s)
  fit_has_key b is e =
      let first = both_true from (are_alike r s && bytes_eq (chosen known (path_of r)) wanted) (sym is ∙ e) in
      let rest = both_true (are_alike r s) (bytes_eq (chosen known (path_of r)) wanted) first.1 in
      let same : chosen test (path_of r) ≡ chosen test (path_of s) = sym found_chosen ∙ (bytes_eq-Decides (chosen known (path_of r)) wanted).0 rest.1
      ∙ wanted_chosen in
      (first.0, alike_keys r s (chosen test (path_of r)) rest.0 ∙ ap (key_with s) same)

  pub unfit_has_other_key : (p : Protocol) → IsRouteOf p r → IsRouteOf p s → (b : Bool) →
      b ≡ (from && (are_alike r s && bytes_eq (chosen known (path_of r)) wanted)) → b ≡ false → from ≡ true → key_by test r ≢ key_by test s
  unfit_has_other_key p a c b is e f same =
      let lone : chosen known (path_of r) ≡ wanted = found_chosen ∙ ap (λ (k : Key). k.lone) same ∙ sym wanted_chosen in
      let fits : (from && (are_alike r s && bytes_eq (chosen known (path_of r)) wanted)) ≡ true =
      and_true from (are_alike r s && bytes_eq (chosen known (path_of r)) wanted) f
      (and_true (are_alike r s) (bytes_eq (chosen known (path_of r)) wanted) (keys_alike p r s (chosen test (path_of r)) (chosen test (path_of s)) a c same)
      ((bytes_eq-Decides (chosen known (path_of r)) wanted).1 lone)) in
      true≢false (sym fits ∙ sym is ∙ e)
