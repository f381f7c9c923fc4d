-- Acts numbered by their first use: each direction that carries routes gets the number of the first one that acts like it.
use Rattle.std.proofs.Common.{◌≡◌, ◌⊎◌, inl, inr, ℕ, zero, suc, ◌+◌, ◌<◌, ◌≤◌, List, [], ◌∷◌, ◌++◌, length, Some, refl, sym, ap, ◌∙◌, subst, arith, append_assoc, length-append}
use Rattle.std.specs.Prelude.{slice_get}
use Rattle.std.proofs.lemmas.Bool.{cases_eq}
use Rattle.base_kit.specs.declared.act_graph.Edge.{Edge}
use Rattle.base_kit.proofs.Elements.{In}
use Rattle.srp_build.specs.declared.hops.Hop.{Hop}
use Rattle.srp_build.specs.ActOrder.{AreByFirstUse, HasEarlier}
use Rattle.srp_build.specs.FirstActs.{IsFirstWith}
use Rattle.srp_build.specs.HopEdges.{edge_with, AreEdgesOf}

get_front : (xs ys : List Hop) (k : ℕ) (x : Hop) → slice_get xs k ≡ Some x → slice_get (xs ++ ys) k ≡ Some x
get_front [] ys k x at = absurd cc
get_front (z ∷ zs) ys zero x at = at
get_front (z ∷ zs) ys (suc k) x at = get_front zs ys k x at

get_seam : (xs : List Hop) (x : Hop) (ys : List Hop) → slice_get (xs ++ x ∷ ys) (length xs) ≡ Some x
get_seam [] x ys = refl
get_seam (z ∷ zs) x ys = get_seam zs x ys

get_below : (xs : List Hop) (k : ℕ) (x : Hop) → slice_get xs k ≡ Some x → k < length xs
get_below [] k x at = absurd cc
get_below (z ∷ zs) zero x at = omega arith
get_below (z ∷ zs) (suc k) x at = (let r = get_below zs k x at in omega arith)

one_value : (a b : Hop) → Some a ≡ Some b → a ≡ b
one_value a b e = cc

last_or : (xs : List Hop) (x : Hop) (k : ℕ) (y : Hop) → slice_get (xs ++ x ∷ []) k ≡ Some y → (slice_get xs k ≡ Some y) ⊎ ((k ≡ length xs) × (x ≡ y))
last_or [] x zero y at = inr (refl, one_value x y at)
last_or [] x (suc k) y at = absurd cc
last_or (z ∷ zs) x zero y at = inl at
last_or (z ∷ zs) x (suc k) y at = elim (last_or zs x k y at) [
  | inl front ↦ inl front
  | inr last ↦ inr (ap suc last.0, last.1)
]

-- one more edge in front
shift : (edge : Edge) (edges : List Edge) (place act : ℕ) → HasEarlier edges place act → HasEarlier (edge ∷ edges) (suc place) act
shift edge edges place act has = record {
  earlier = suc has.earlier;
  before = (let b = has.before in omega arith);
  edge = has.edge;
  at = has.at;
  same =
      has.same;
}

in_front : (edge : Edge) (edges : List Edge) (place : ℕ) → HasEarlier (edge ∷ edges) (suc place) edge.act
in_front edge edges place = record { earlier = zero; before = omega arith; edge = edge; at = refl; same = refl }

first_behind : (edge : Edge) (edges : List Edge) (place act : ℕ) → IsFirstWith (edge ∷ edges) (suc place) act → IsFirstWith edges place act
first_behind edge edges place act is = record { first = λ earlier other less at. is.first (suc earlier) other (omega arith) at }

-- Acts are told apart by a relation that can be decided, and of each direction it is decided whether it carries routes.
module _ (R : Hop → Hop → Type 0) (own : (h : Hop) → R h h) (turn : (a b : Hop) → R a b → R b a) (Good : Hop → Type 0)
    (decide : (a b : Hop) → Good a → Good b → R a b ⊎ (R a b → ⊥)) (Open : Hop → Type 0) (Left : Hop → Type 0)
    (choose : (h : Hop) → Good h → Open h ⊎ Left h) where
  -- the edge is that of the direction, and its act is like the direction
  pub record HasAct (acts : List Hop) (hop : Hop) (edge : Edge) : Type 0 where
    pub same : edge ≡ edge_with edge.act hop
    pub act : Hop
    pub at : slice_get acts edge.act ≡ Some act
    pub like : R hop act
    pub carries : Open hop

  -- the act of the edge is first in the direction of the edge
  pub record IsFirst (acts : List Hop) (edge : Edge) : Type 0 where
    pub act : Hop
    pub at : slice_get acts edge.act ≡ Some act
    pub same : edge ≡ edge_with edge.act act

  abbrev pub AreApart : List Hop → Type 0
  AreApart acts = (i j : ℕ) (a b : Hop) → slice_get acts i ≡ Some a → slice_get acts j ≡ Some b → R a b → i ≡ j

  abbrev pub AreGood : List Hop → Type 0
  AreGood acts = (k : ℕ) (a : Hop) → slice_get acts k ≡ Some a → Good a

  abbrev pub AreOpen : List Hop → Type 0
  AreOpen acts = (k : ℕ) (a : Hop) → slice_get acts k ≡ Some a → Open a

  find_like : (hop : Hop) → Good hop → (acts : List Hop) → AreGood acts
      → ((k : ℕ) × ((a : Hop) × (slice_get acts k ≡ Some a) × R hop a)) ⊎ ((k : ℕ) (a : Hop) → slice_get acts k ≡ Some a → R hop a → ⊥)
  find_like hop good [] all = inr (λ k a at like. cc)
  find_like hop good (x ∷ xs) all = elim (decide hop x good (all zero x refl)) [
    | inl like ↦ inl (zero, (x, refl, like))
    | inr other ↦ elim (find_like hop good xs (λ k a at. all (suc k) a at)) [
      | inl found ↦ inl (suc found.0, found.1)
      | inr none ↦ inr (nowhere other none)
    ]
  ]
    where
      nowhere : (R hop x → ⊥) → ((k : ℕ) (a : Hop) → slice_get xs k ≡ Some a → R hop a → ⊥) → (k : ℕ) (a : Hop) → slice_get (x ∷ xs) k ≡ Some a → R hop a → ⊥
      nowhere other none zero a at like = other (subst (R hop) (sym (one_value x a at)) like)
      nowhere other none (suc k) a at like = none k a at like

  apart_more : (hop : Hop) (acts : List Hop) → AreApart acts → ((k : ℕ) (a : Hop) → slice_get acts k ≡ Some a → R hop a → ⊥) → AreApart (acts ++ hop ∷ [])
  apart_more hop acts apart none i j a b at at' like = elim (last_or acts hop i a at) [
    | inl first ↦ elim (last_or acts hop j b at') [
      | inl second ↦ apart i j a b first second like
      | inr second ↦ absurd (none i a first (turn a hop (subst (R a) (sym second.1) like)))
    ]
    | inr first ↦ elim (last_or acts hop j b at') [
      | inl second ↦ absurd (none j b second (subst (λ x. R x b) (sym first.1) like))
      | inr second ↦ first.0 ∙ sym second.0
    ]
  ]

  each_more : (P : Hop → Type 0) (hop : Hop) (acts : List Hop) → P hop → ((k : ℕ) (a : Hop) → slice_get acts k ≡ Some a → P a) → (k : ℕ) (a : Hop)
      → slice_get (acts ++ hop ∷ []) k ≡ Some a → P a
  each_more P hop acts last all k a at = elim (last_or acts hop k a at) [
    | inl front ↦ all k a front
    | inr end ↦ subst P end.1 last
  ]

  left_out : (acts : List Hop) (hop : Hop) (hops : List Hop) (edges : List Edge) → Left hop → AreEdgesOf (HasAct acts) Left hops edges
      → AreEdgesOf (HasAct acts) Left (hop ∷ hops) edges
  left_out acts hop hops [] left all = (left, all)
  left_out acts hop hops (e ∷ es) left all = inr (left, all)

  -- The edges of the directions that are left, and all acts behind them, of which these are the first.
  pub record Found (acts hops : List Hop) : Type 0 where
    pub more : List Hop
    pub all : List Hop
    pub all_is : all ≡ acts ++ more
    pub edges : List Edge
    pub each : AreEdgesOf (HasAct all) Left hops edges
    pub apart : AreApart all
    pub carry : AreOpen all
    pub within : (k : ℕ) (a : Hop) → slice_get more k ≡ Some a → In hops a
    pub few : length more ≤ length hops
    pub used : (act : ℕ) → length acts ≤ act → act < length all → HasEarlier edges (length edges) act
    pub in_order : (place act : ℕ) (edge : Edge) → slice_get edges place ≡ Some edge → length acts ≤ act → act < edge.act → HasEarlier edges place act
    pub first : (place : ℕ) (edge : Edge) → slice_get edges place ≡ Some edge → length acts ≤ edge.act → IsFirstWith edges place edge.act → IsFirst all edge

  within_more : (hop : Hop) (hops more : List Hop) → ((k : ℕ) (a : Hop) → slice_get more k ≡ Some a → In hops a) → (k : ℕ) (a : Hop)
      → slice_get (hop ∷ more) k ≡ Some a → In (hop ∷ hops) a
  within_more hop hops more all zero a at = inl (one_value hop a at)
  within_more hop hops more all (suc k) a at = inr (all k a at)

  -- a direction that is left out
  leave : (acts hops : List Hop) (hop : Hop) → Left hop → Found acts hops → Found acts (hop ∷ hops)
  leave acts hops hop left f = record {
    more = f.more;
    all = f.all;
    all_is = f.all_is;
    edges = f.edges;
    each = left_out f.all hop hops f.edges left f.each;
    apart = f.apart;
    carry = f.carry;
    within = λ k a at. inr (f.within k a at);
    few = (let r = f.few in omega arith);
    used = f.used;
    in_order = f.in_order;
    first = f.first;
  }

  -- a direction whose act was there
  again : (acts hops : List Hop) (hop : Hop) → Open hop → (k : ℕ) (a : Hop) → slice_get acts k ≡ Some a → R hop a → Found acts hops → Found acts (hop ∷ hops)
  again acts hops hop carries k a at like f =
      let edge : Edge = edge_with k hop in
      let below : k < length acts = get_below acts k a at in
      let there : slice_get f.all k ≡ Some a = ap (λ (l : List Hop). slice_get l k) f.all_is ∙ get_front acts f.more k a at in
      record {
        more = f.more;
        all = f.all;
        all_is = f.all_is;
        edges = edge ∷ f.edges;
        each = inl (record { same = refl; act = a; at = there; like = like; carries = carries }, f.each);
        apart = f.apart;
        carry = f.carry;
        within = λ j b i. inr (f.within j b i);
        few = (let r = f.few in omega arith);
        used = λ act low high. shift edge f.edges (length f.edges) act (f.used act low high);
        in_order = in_order edge below;
        first = first edge below;
      }
    where
      in_order : (front : Edge) → front.act < length acts → (place act : ℕ) (edge : Edge) → slice_get (front ∷ f.edges) place ≡ Some edge → length acts ≤ act
          → act < edge.act
          → HasEarlier (front ∷ f.edges) place act
      in_order front below zero act edge e low less = (let same : front.act ≡ edge.act = ap (λ (x : Edge). x.act) (let one : front ≡ edge = cc in one) in
          absurd (omega arith))
      in_order front below (suc place) act edge e low less = shift front f.edges place act (f.in_order place act edge e low less)

      first : (front : Edge) → front.act < length acts → (place : ℕ) (edge : Edge) → slice_get (front ∷ f.edges) place ≡ Some edge → length acts ≤ edge.act
          → IsFirstWith (front ∷ f.edges) place edge.act → IsFirst f.all edge
      first front below zero edge e low is = (let same : front.act ≡ edge.act = ap (λ (x : Edge). x.act) (let one : front ≡ edge = cc in one) in
          absurd (omega arith))
      first front below (suc place) edge e low is = f.first place edge e low (first_behind front f.edges place edge.act is)

  -- a direction with an act of its own
  anew : (acts hops : List Hop) (hop : Hop) → Open hop → Found (acts ++ hop ∷ []) hops → Found acts (hop ∷ hops)
  anew acts hops hop carries f =
      let all_is : f.all ≡ acts ++ hop ∷ f.more = f.all_is ∙ append_assoc acts (hop ∷ []) f.more in
      record {
        more = hop ∷ f.more;
        all = f.all;
        all_is = all_is;
        edges = front ∷ f.edges;
        each = inl (record { same = refl; act = hop; at = seam; like = own hop; carries = carries }, f.each);
        apart = f.apart;
        carry = f.carry;
        within = within_more hop hops f.more f.within;
        few = (let r = f.few in omega arith);
        used = λ act low high. (elim (cases_eq (length acts) act) [
          | inl same ↦ subst (HasEarlier (front ∷ f.edges) (suc (length f.edges))) same (in_front front f.edges (length f.edges))
          | inr other ↦ shift front f.edges (length f.edges) act (f.used act (let l = longer in omega arith) high)
        ]);
        in_order = in_order;
        first = first;
      }
    where
      front : Edge
      front = edge_with (length acts) hop

      longer : length (acts ++ hop ∷ []) ≡ length acts + 1
      longer = (let e = length-append acts (hop ∷ []) in omega arith)

      seam : slice_get f.all (length acts) ≡ Some hop
      seam = ap (λ (l : List Hop). slice_get l (length acts)) (f.all_is ∙ append_assoc acts (hop ∷ []) f.more) ∙ get_seam acts hop f.more

      in_order : (place act : ℕ) (edge : Edge) → slice_get (front ∷ f.edges) place ≡ Some edge → length acts ≤ act → act < edge.act
          → HasEarlier (front ∷ f.edges) place act
      in_order zero act edge e low less = (let same : length acts ≡ edge.act = ap (λ (x : Edge). x.act) (let one : front ≡ edge = cc in one) in
          absurd (omega arith))
      in_order (suc place) act edge e low less = elim (cases_eq (length acts) act) [
        | inl same ↦ subst (HasEarlier (front ∷ f.edges) (suc place)) same (in_front front f.edges place)
        | inr other ↦ shift front f.edges place act (f.in_order place act edge e (let l = longer in omega arith) less)
      ]

      first : (place : ℕ) (edge : Edge) → slice_get (front ∷ f.edges) place ≡ Some edge → length acts ≤ edge.act → IsFirstWith (front ∷ f.edges) place edge.act
          → IsFirst f.all edge
      first zero edge e low is =
          let one : front ≡ edge = (let s : Some front ≡ Some edge = e in cc) in
          let same : length acts ≡ edge.act = ap (λ (x : Edge). x.act) one in
          record { act = hop; at = ap (slice_get f.all) (sym same) ∙ seam; same = sym one ∙ ap (λ (k : ℕ). edge_with k hop) same }
      first (suc place) edge e low is = elim (cases_eq (length acts) edge.act) [
        | inl same ↦ absurd (is.first zero front (omega arith) refl same)
        | inr other ↦ f.first place edge e (let l = longer in omega arith) (first_behind front f.edges place edge.act is)
      ]

  numbered : (hops : List Hop) → ((h : Hop) → In hops h → Good h) → (acts : List Hop) → AreGood acts → AreApart acts → AreOpen acts → Found acts hops
  numbered [] good acts all apart carry = record {
    more = [];
    all = acts;
    all_is = append_nil acts;
    edges = [];
    each = tt;
    apart = apart;
    carry = carry;
    within = λ k a at. absurd cc;
    few = omega arith;
    used = λ act low high. absurd (omega arith);
    in_order = λ place act edge e low less. absurd cc;
    first = λ place edge e low is. absurd cc;
  }
    where
      append_nil : (xs : List Hop) → xs ≡ xs ++ []
      append_nil [] = refl
      append_nil (x ∷ xs) = ap (λ (l : List Hop). x ∷ l) (append_nil xs)
  numbered (hop ∷ hops) good acts all apart carry =
      let mine = good hop (inl refl) in
      let rest : (h : Hop) → In hops h → Good h = λ h i. good h (inr i) in
      elim (choose hop mine) [
        | inr left ↦ leave acts hops hop left (numbered hops rest acts all apart carry)
        | inl carries ↦ elim (find_like hop mine acts all) [
          | inl found ↦ again acts hops hop carries found.0 found.1.0 found.1.1 found.1.2 (numbered hops rest acts all apart carry)
          | inr none ↦ anew acts hops hop carries
              (numbered hops rest (acts ++ hop ∷ []) (each_more Good hop acts mine all) (apart_more hop acts apart none)
              (each_more Open hop acts carries carry))
        ]
      ]

  -- the edges of all directions, with their acts in order
  pub record AreNumbered (hops : List Hop) : Type 0 where
    pub acts : List Hop
    pub edges : List Edge
    pub each : AreEdgesOf (HasAct acts) Left hops edges
    pub apart : AreApart acts
    pub carry : AreOpen acts
    pub within : (k : ℕ) (a : Hop) → slice_get acts k ≡ Some a → In hops a
    pub few : length acts ≤ length hops
    pub order : AreByFirstUse edges (length acts)
    pub first : (place : ℕ) (edge : Edge) → slice_get edges place ≡ Some edge → IsFirstWith edges place edge.act → IsFirst acts edge

  pub all_numbered : (hops : List Hop) → ((h : Hop) → In hops h → Good h) → AreNumbered hops
  all_numbered hops good =
      let f = numbered hops good [] (λ k a at. absurd cc) (λ i j a b at at' like. absurd cc) (λ k a at. absurd cc) in
      record {
        acts = f.all;
        edges = f.edges;
        each = f.each;
        apart = f.apart;
        carry = f.carry;
        within = λ k a at. f.within k a (sym (ap (λ (l : List Hop). slice_get l k) f.all_is) ∙ at);
        few = (let r = f.few in let same = ap (λ (l : List Hop). length l) f.all_is in omega arith);
        order = record { used = λ act high. f.used act (omega arith) high; in_order = λ place act edge e less. f.in_order place act edge e (omega arith) less };
        first = λ place edge e is. f.first place edge e (omega arith) is;
      }
