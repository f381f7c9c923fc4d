-- The problem without one link is that of the network in which the neighbour at an end of it has `shutdown`.
use Rattle.std.proofs.Common.{◌≡◌, ℕ, Bool, true, false, not, ◌&&◌, ◌||◌, List, Option, Some, None, refl, sym, ◌∙◌, ap, subst}
use Rattle.std.specs.Prelude.{nat_eq, slice_get}
use Rattle.std.specs.Option.{option_map_or}
use Rattle.base_kit.proofs.SetFacts.{same_number}
use Rattle.base_kit.specs.declared.act_graph.Edge.{Edge}
use Rattle.base_kit.specs.declared.protocol.Protocol.{Protocol}
use Rattle.base_kit.specs.declared.protocol.Protocol.TheVariants.{Bgp as OverBgp}
use Rattle.base_kit.specs.Prefixes.{Prefix}
use Rattle.cfg_ast.specs.declared.network.Network.{Network}
use Rattle.cfg_ast.specs.declared.topology.Link.{Link}
use Rattle.cfg_ast.specs.meaning.Topology.{links_of}
use Rattle.cfg_ast.specs.text.Reading.{IsGiven}
use Rattle.cfg_check.specs.Faultless.{IsFaultless}
use Rattle.net_topology.proofs.Ends.{one_number}
use Rattle.srp_core.specs.Problem.{Problem}
use Rattle.srp_core.specs.ProblemOf.{IsProblemOf}
use Rattle.srp_core.specs.Without.{Down, IsWithout, is_left, nothing_down, with_link_down}
use Rattle.shutdown_laws.specs.Shutdown.{down_at, is_end, NeighborEndsOneLink, ShutdownIsWithoutLink}
use Rattle.shutdown_laws.proofs.ChangedLists.{filter_same}
use Rattle.shutdown_laws.proofs.ShutProblem.{is_problem}

bool_is : (b : Bool) → (b ≡ true → ⊥) → b ≡ false
bool_is true never = absurd (never refl)
bool_is false never = refl

module _ (one : NeighborEndsOneLink) (n : Network) (prefix : Prefix) (P O : Problem) (r i l : ℕ) (link : Link) (given : ∥ IsGiven n ∥₁)
    (faultless : IsFaultless n)
    (bgp : P.protocol ≡ OverBgp) (of : IsProblemOf n prefix P) (at : slice_get (links_of n) l ≡ Some link) (ends : is_end r i link ≡ true) where
  abbrev alone : Down
  alone = with_link_down l nothing_down

  -- no other link ends at the neighbour
  other_open : (k : ℕ) (o : Option Link) → slice_get (links_of n) k ≡ o → nat_eq k l ≡ false → option_map_or (is_end r i) o false ≡ false
  other_open k None here differ = refl
  other_open k (Some other) here differ = bool_is (is_end r i other) (λ e. (
      let same : k ≡ l = one n r i k l other link given faultless (of.protocol ∙ ap (λ (p : Protocol). Some p) bgp) here at e ends in
      let yes = same_number k l same in
      absurd (cc)))

  same_by : (k : ℕ) (b : Bool) → nat_eq k l ≡ b → (nat_eq k l || false) ≡ option_map_or (is_end r i) (slice_get (links_of n) k) false
  same_by k true e =
      let here : slice_get (links_of n) k ≡ Some link = ap (slice_get (links_of n)) (one_number k l e) ∙ at in
      ap (λ b. b || false) e ∙ sym (ap (λ (o : Option Link). option_map_or (is_end r i) o false) here ∙ ends)
  same_by k false e = ap (λ b. b || false) e ∙ sym (other_open k (slice_get (links_of n) k) refl e)

  same_left : (e : Edge) → is_left alone e ≡ is_left (down_at n r i) e
  same_left e = ap (λ b. not b && (not false && not false)) (same_by e.link (nat_eq e.link l) refl)

  without_ends : IsWithout P alone O → IsWithout P (down_at n r i) O
  without_ends w = record {
    rules = w.rules;
    protocol = w.protocol;
    names = w.names;
    numbers = w.numbers;
    acts = w.acts;
    init = w.init;
    edges = w.edges ∙ filter_same (is_left alone) (is_left (down_at n r i)) P.edges same_left;
  }

pub without_link : NeighborEndsOneLink → ShutdownIsWithoutLink
without_link one n prefix P O r i l link given faultless bgp of at ends w =
    is_problem n prefix P O r i faultless bgp of (without_ends one n prefix P O r i l link given faultless bgp of at ends w)
