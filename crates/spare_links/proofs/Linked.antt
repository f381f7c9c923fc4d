-- The links over which routers forward, and over which routes tie, one edge after another.
use Rattle.std.proofs.Common.{◌≡◌, ◌≢◌, ℕ, ◌+◌, ◌<◌, ◌≤◌, Bool, true, false, cond, List, [], ◌∷◌, ◌++◌, length, take, get_or, nat_eq, refl, sym, ◌∙◌, ap, subst, arith, inl, inr, ◌⊎◌, take_all}
use Rattle.std.specs.Prelude.{Option, Some, None, IfSome, Contains, slice_index_or}
use Rattle.std.proofs.Math.ListN.{set, replicate}
use Rattle.std.proofs.lemmas.Bool.{cases_eq}
use Rattle.std.proofs.lemmas.List.{take_more, get_or_default, get_or-set_same, get_or-set_other, length-set, get_or-replicate, length-replicate}
use Rattle.base_kit.specs.declared.act_graph.Edge.{Edge}
use Rattle.base_kit.proofs.Elements.{contains_in, in_contains, in_left, in_right, append_in}
use Rattle.base_kit.proofs.SetFacts.{same_number}
use Rattle.srp_core.specs.declared.route.Route.{Route}
use Rattle.srp_core.specs.Problem.{Problem, count}
use Rattle.spare_links.specs.declared.standing.Standing.TheVariants.{Same, Tied}
use Rattle.spare_links.specs.declared.ways.Ways.{Ways}
use Rattle.spare_links.specs.declared.ways.Ways.TheVariants.{Nowhere, OneLink, MoreLinks}
use Rattle.spare_links.specs.Standing.{standing_over}
use Rattle.spare_links.specs.Ways.{with_way, GoesOver, TiesOver, TiesAt, AreAllLinks, AreWays, AreTies}

-- ---- one link more

abbrev OneMore : (ℕ → Type 0) → ℕ → ℕ → Type 0
OneMore goes link other = goes other ⊎ (other ≡ link)

-- the same is said of the same links
said_of_same : (P Q : ℕ → Type 0) → ((n : ℕ) → P n → Q n) → ((n : ℕ) → Q n → P n) → (ways : Ways) → AreAllLinks P ways → AreAllLinks Q ways
said_of_same P Q there back Nowhere all = λ n q. all n (back n q)
said_of_same P Q there back (OneLink x) all = record { it_goes = there x all.it_goes; only = λ n q. all.only n (back n q) }
said_of_same P Q there back MoreLinks all = record {
  first = all.first;
  second = all.second;
  first_goes = there all.first all.first_goes;
  second_goes = there all.second all.second_goes;
  differ = all.differ;
}

one_more : (goes : ℕ → Type 0) (link : ℕ) (ways : Ways) → AreAllLinks goes ways → AreAllLinks (OneMore goes link) (with_way ways link)
one_more goes link Nowhere none = record { it_goes = inr refl; only = λ n h. only n h }
  where
    only : (n : ℕ) → goes n ⊎ (n ≡ link) → n ≡ link
    only n (inl g) = absurd (none n g)
    only n (inr e) = e
one_more goes link (OneLink one) all = by (nat_eq one link) refl
  where
    only : one ≡ link → (n : ℕ) → goes n ⊎ (n ≡ link) → n ≡ one
    only same n (inl g) = all.only n g
    only same n (inr e) = e ∙ sym same

    by : (b : Bool) → nat_eq one link ≡ b → AreAllLinks (OneMore goes link) (cond b (OneLink one) MoreLinks)
    by true e = record { it_goes = inl all.it_goes; only = λ n h. only (let yes = e in Rattle.std.proofs.lemmas.Bool.eqb-true one link e) n h }
    by false e = record {
      first = one;
      second = link;
      first_goes = inl all.it_goes;
      second_goes = inr refl;
      differ = λ same. let yes = same_number one link same in cc;
    }
one_more goes link MoreLinks two = record {
  first = two.first;
  second = two.second;
  first_goes = inl two.first_goes;
  second_goes = inl two.second_goes;
  differ = two.differ;
}

-- ---- one edge more

module _ (P : Problem) (L : List (Option Route)) where
  pub none_yet : AreWays P L [] (replicate (count P) Nowhere)
  none_yet = record {
    total = length-replicate (count P) Nowhere;
    each = λ u lt. let Q : Ways → Type 0 = λ ways. AreAllLinks (GoesOver P L [] u) ways in
        subst Q (sym (get_or-replicate (count P) u Nowhere Nowhere lt)) (λ link g. in_contains [] g.edge g.edge_in);
  }

  pub no_ties_yet : AreTies P L [] Nowhere None
  no_ties_yet = record {
    links = λ link t. in_contains [] t.edge t.edge_in;
    none = λ is edge h. absurd (in_contains [] edge h);
    some = tt;
  }

  module _ (edges : List Edge) (edge : Edge) where
    more_edge : (u link : ℕ) → GoesOver P L edges u link → GoesOver P L (edges ++ edge ∷ []) u link
    more_edge u link g = record {
      edge = g.edge;
      edge_in = contains_in _ g.edge (in_left edges (edge ∷ []) g.edge (in_contains edges g.edge g.edge_in));
      importer = g.importer;
      of_link = g.of_link;
      same = g.same;
    }

    last_edge : standing_over P L edge ≡ Same → GoesOver P L (edges ++ edge ∷ []) edge.importer edge.link
    last_edge same = record {
      edge = edge;
      edge_in = contains_in _ edge (in_right edges (edge ∷ []) edge (inl refl));
      importer = refl;
      of_link = refl;
      same = same;
    }

    old_or_last : (u link : ℕ) → GoesOver P L (edges ++ edge ∷ []) u link →
        GoesOver P L edges u link ⊎ ((edge.importer ≡ u) × (edge.link ≡ link) × (standing_over P L edge ≡ Same))
    old_or_last u link g = elim (append_in edges (edge ∷ []) g.edge (in_contains _ g.edge g.edge_in)) [
      | inl before ↦ inl (record { edge = g.edge; edge_in = contains_in edges g.edge before; importer = g.importer; of_link = g.of_link; same = g.same })
      | inr last ↦ elim last [
        | inl is ↦ inr (ap (λ (e : Edge). e.importer) is ∙ g.importer, ap (λ (e : Edge). e.link) is ∙ g.of_link, ap (standing_over P L) is ∙ g.same)
        | inr none ↦ absurd none
      ]
    ]

    aside : (u : ℕ) (ways : Ways) → ((edge.importer ≡ u) × (standing_over P L edge ≡ Same) → ⊥) → AreAllLinks (GoesOver P L edges u) ways →
        AreAllLinks (GoesOver P L (edges ++ edge ∷ []) u) ways
    aside u ways other all = said_of_same (GoesOver P L edges u) (GoesOver P L (edges ++ edge ∷ []) u) (λ n. more_edge u n) (λ n. back n) ways all
      where
        back : (n : ℕ) → GoesOver P L (edges ++ edge ∷ []) u n → GoesOver P L edges u n
        back n g = elim (old_or_last u n g) [ inl before ↦ before | inr last ↦ absurd (other (last.0, last.2)) ]

    here : (ways : Ways) → standing_over P L edge ≡ Same → AreAllLinks (GoesOver P L edges edge.importer) ways →
        AreAllLinks (GoesOver P L (edges ++ edge ∷ []) edge.importer) (with_way ways edge.link)
    here ways same all = said_of_same (OneMore (GoesOver P L edges edge.importer) edge.link) (GoesOver P L (edges ++ edge ∷ []) edge.importer) (λ n. there n)
        (λ n. back n)
        (with_way ways edge.link) (one_more (GoesOver P L edges edge.importer) edge.link ways all)
      where
        there : (n : ℕ) → GoesOver P L edges edge.importer n ⊎ (n ≡ edge.link) → GoesOver P L (edges ++ edge ∷ []) edge.importer n
        there n (inl before) = more_edge edge.importer n before
        there n (inr is) = subst (GoesOver P L (edges ++ edge ∷ []) edge.importer) (sym is) (last_edge same)

        back : (n : ℕ) → GoesOver P L (edges ++ edge ∷ []) edge.importer n → GoesOver P L edges edge.importer n ⊎ (n ≡ edge.link)
        back n g = elim (old_or_last edge.importer n g) [ inl before ↦ inl before | inr last ↦ inr (sym last.1) ]

    untied_more : ((e : Edge) → Contains edges e → standing_over P L e ≢ Tied) → standing_over P L edge ≢ Tied → (e : Edge) → Contains (edges ++ edge ∷ []) e →
        standing_over P L e ≢ Tied
    untied_more before last e h = elim (append_in edges (edge ∷ []) e (in_contains _ e h)) [
      | inl old ↦ before e (contains_in edges e old)
      | inr new ↦ elim new [ inl is ↦ subst (λ (x : Edge). standing_over P L x ≢ Tied) is last | inr none ↦ absurd none ]
    ]

    aside_more : (ways : List Ways) → standing_over P L edge ≢ Same → AreWays P L edges ways → AreWays P L (edges ++ edge ∷ []) ways
    aside_more ways other are = record {
      total = are.total;
      each = λ u lt. aside u (slice_index_or ways u Nowhere) (λ both. other both.1) (are.each u lt);
    }

    same_more : (ways : List Ways) → edge.importer < count P → standing_over P L edge ≡ Same → AreWays P L edges ways →
        AreWays P L (edges ++ edge ∷ []) (set ways edge.importer (with_way (slice_index_or ways edge.importer Nowhere) edge.link))
    same_more ways inside same are = record {
      total = length-set ways edge.importer next ∙ are.total;
      each = λ u lt. elim (cases_eq u edge.importer) [
        | inl is ↦ subst (λ (v : ℕ). AreAllLinks (GoesOver P L (edges ++ edge ∷ []) v) (slice_index_or (set ways edge.importer next) v Nowhere)) (sym is)
            (let Q : Ways → Type 0 = λ w. AreAllLinks (GoesOver P L (edges ++ edge ∷ []) edge.importer) w in
            subst Q (sym (get_or-set_same ways edge.importer next Nowhere within))
            (here (slice_index_or ways edge.importer Nowhere) same (are.each edge.importer inside)))
        | inr other ↦ (let Q : Ways → Type 0 = λ w. AreAllLinks (GoesOver P L (edges ++ edge ∷ []) u) w in
            subst Q (sym (get_or-set_other ways edge.importer u next Nowhere other))
            (aside u (slice_index_or ways u Nowhere) (λ both. other (sym both.0)) (are.each u lt)))
      ];
    }
      where
        next : Ways
        next = with_way (slice_index_or ways edge.importer Nowhere) edge.link

        within : edge.importer < length ways
        within = let total = are.total in omega arith

    -- ---- ties

    more_tie : (link : ℕ) → TiesOver P L edges link → TiesOver P L (edges ++ edge ∷ []) link
    more_tie link t = record {
      edge = t.edge;
      edge_in = contains_in _ t.edge (in_left edges (edge ∷ []) t.edge (in_contains edges t.edge t.edge_in));
      of_link = t.of_link;
      tied = t.tied;
    }

    more_tied_at : (tied : Option ℕ) → IfSome tied (TiesAt P L edges) → IfSome tied (TiesAt P L (edges ++ edge ∷ []))
    more_tied_at None at = tt
    more_tied_at (Some u) at = record {
      edge = at.edge;
      edge_in = contains_in _ at.edge (in_left edges (edge ∷ []) at.edge (in_contains edges at.edge at.edge_in));
      importer = at.importer;
      tied = at.tied;
    }

    old_or_last_tie : (link : ℕ) → TiesOver P L (edges ++ edge ∷ []) link → TiesOver P L edges link ⊎ ((edge.link ≡ link) × (standing_over P L edge ≡ Tied))
    old_or_last_tie link t = elim (append_in edges (edge ∷ []) t.edge (in_contains _ t.edge t.edge_in)) [
      | inl before ↦ inl (record { edge = t.edge; edge_in = contains_in edges t.edge before; of_link = t.of_link; tied = t.tied })
      | inr last ↦ elim last [
        | inl is ↦ inr (ap (λ (e : Edge). e.link) is ∙ t.of_link, ap (standing_over P L) is ∙ t.tied)
        | inr none ↦ absurd none
      ]
    ]

    ties_stay : (ties : Ways) (tied : Option ℕ) → standing_over P L edge ≢ Tied → AreTies P L edges ties tied → AreTies P L (edges ++ edge ∷ []) ties tied
    ties_stay ties tied other are = record {
      links = said_of_same (TiesOver P L edges) (TiesOver P L (edges ++ edge ∷ [])) (λ n. more_tie n) (λ n. back n) ties are.links;
      none = λ is. untied_more (are.none is) other;
      some = more_tied_at tied are.some;
    }
      where
        back : (n : ℕ) → TiesOver P L (edges ++ edge ∷ []) n → TiesOver P L edges n
        back n t = elim (old_or_last_tie n t) [ inl before ↦ before | inr last ↦ absurd (other last.1) ]

    ties_more : (ties : Ways) (tied : Option ℕ) → standing_over P L edge ≡ Tied → AreTies P L edges ties tied →
        AreTies P L (edges ++ edge ∷ []) (with_way ties edge.link) (Some edge.importer)
    ties_more ties tied is are = record {
      links = said_of_same (OneMore (TiesOver P L edges) edge.link) (TiesOver P L (edges ++ edge ∷ [])) (λ n. there n) (λ n. back n) (with_way ties edge.link)
          (one_more (TiesOver P L edges) edge.link ties are.links);
      none = λ some. absurd cc;
      some = record { edge = edge; edge_in = last_in; importer = refl; tied = is };
    }
      where
        last_in : Contains (edges ++ edge ∷ []) edge
        last_in = contains_in _ edge (in_right edges (edge ∷ []) edge (inl refl))

        there : (n : ℕ) → TiesOver P L edges n ⊎ (n ≡ edge.link) → TiesOver P L (edges ++ edge ∷ []) n
        there n (inl before) = more_tie n before
        there n (inr of) = record { edge = edge; edge_in = last_in; of_link = sym of; tied = is }

        back : (n : ℕ) → TiesOver P L (edges ++ edge ∷ []) n → TiesOver P L edges n ⊎ (n ≡ edge.link)
        back n t = elim (old_or_last_tie n t) [ inl before ↦ inl before | inr last ↦ inr (sym last.0) ]

  -- the edge at the next place of a list
  module _ (edges : List Edge) (i : ℕ) (d : Edge) (inside : i < length edges) where
    pub aside_next : (ways : List Ways) → standing_over P L (get_or edges i d) ≢ Same → AreWays P L (take i edges) ways → AreWays P L (take (i + 1) edges) ways
    aside_next ways other are = subst (λ l. AreWays P L l ways) (sym (take_more edges i d inside)) (aside_more (take i edges) (get_or edges i d) ways other are)

    pub stay_next : (ties : Ways) (tied : Option ℕ) → standing_over P L (get_or edges i d) ≢ Tied → AreTies P L (take i edges) ties tied →
        AreTies P L (take (i + 1) edges) ties tied
    stay_next ties tied other are =
        subst (λ l. AreTies P L l ties tied) (sym (take_more edges i d inside)) (ties_stay (take i edges) (get_or edges i d) ties tied other are)

    pub tied_next : (ties next : Ways) (tied now : Option ℕ) → standing_over P L (get_or edges i d) ≡ Tied → next ≡ with_way ties (get_or edges i d).link →
        now ≡ Some (get_or edges i d).importer → AreTies P L (take i edges) ties tied → AreTies P L (take (i + 1) edges) next now
    tied_next ties next tied now is links_are now_is are =
        let edge = get_or edges i d in
        subst (λ l. AreTies P L l next now) (sym (take_more edges i d inside))
        (subst (λ n. AreTies P L (take i edges ++ edge ∷ []) next n) (sym now_is)
        (subst (λ w. AreTies P L (take i edges ++ edge ∷ []) w (Some edge.importer)) (sym links_are) (ties_more (take i edges) edge ties tied is are)))

    pub same_next : (ways : List Ways) (read next : Ways) → (get_or edges i d).importer < count P → standing_over P L (get_or edges i d) ≡ Same →
        read ≡ get_or ways (get_or edges i d).importer read → next ≡ with_way read (get_or edges i d).link → AreWays P L (take i edges) ways →
        AreWays P L (take (i + 1) edges) (set ways (get_or edges i d).importer next)
    same_next ways read next importer same at is are =
        let edge = get_or edges i d in
        let long = are.total in
        let same_read : read ≡ get_or ways edge.importer Nowhere = at ∙ get_or_default ways edge.importer read Nowhere (omega arith) in
        subst (λ l. AreWays P L l (set ways edge.importer next)) (sym (take_more edges i d inside))
        (subst (λ w. AreWays P L (take i edges ++ edge ∷ []) (set ways edge.importer w)) (ap (λ r. with_way r edge.link) (sym same_read) ∙ sym is)
        (same_more (take i edges) edge ways importer same are))

  pub all_ties : (edges : List Edge) (i : ℕ) (ties : Ways) (tied : Option ℕ) → length edges ≤ i → AreTies P L (take i edges) ties tied →
      AreTies P L edges ties tied
  all_ties edges i ties tied past are = subst (λ l. AreTies P L l ties tied) (take_all i edges past) are

  pub all_edges : (edges : List Edge) (i : ℕ) (ways : List Ways) → length edges ≤ i → AreWays P L (take i edges) ways → AreWays P L edges ways
  all_edges edges i ways past are = subst (λ l. AreWays P L l ways) (take_all i edges past) are
