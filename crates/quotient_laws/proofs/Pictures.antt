-- Labels that correspond show the same of the groups.
use Rattle.std.proofs.Common.{◌≡◌, ℕ, ◌<◌, List, sym, ap, ◌∙◌, subst, Option, Some}
use Rattle.std.specs.Option.{option_map}
use Rattle.srp_core.specs.declared.route.Route.{Route}
use Rattle.srp_core.specs.Routes.{Key}
use Rattle.srp_core.specs.Problem.{Problem, count, key_of}
use Rattle.srp_core.specs.Stability.{label, ForwardsTo, HaveSameKeys}
use Rattle.srp_core.specs.Quotient.{group_of, IsQuotient, Corresponds}
use Rattle.quotient_laws.specs.Questions.{Picture, itself, label_key, picture, HaveSamePictures, IsOfPictures, HasOneAnswer, MemberForwards, MemberHolds, PicturesAgree, ShowSame}
use Rattle.quotient_laws.proofs.Answered.{Down, Up}

same_keys : (P Q : Problem) (a b : Option Route) → HaveSameKeys P Q a b → option_map (key_of P) a ≡ option_map (key_of Q) b
same_keys P Q a b (HaveSameKeys.both_none none other) = ap (option_map (key_of P)) none ∙ sym (ap (option_map (key_of Q)) other)
same_keys P Q a b (HaveSameKeys.both_some r s is other keys) =
    ap (option_map (key_of P)) is ∙ ap (λ (k : Key). Some k) keys ∙ sym (ap (option_map (key_of Q)) other)

module _ (P Q : Problem) (groups : List ℕ) (q : IsQuotient P groups Q) (labels lower : List (Option Route))
    (c : Corresponds P Q groups labels lower) where
  keys_at : (u : ℕ) → u < count P → label_key P labels u ≡ label_key Q lower (group_of groups u)
  keys_at u h = same_keys P Q (label labels u) (label lower (group_of groups u)) (c.keys u h)

  holds : (g : ℕ) (key : Option Key) → MemberHolds P (group_of groups) labels g key → MemberHolds Q itself lower g key
  holds g key m = record {
    member = group_of groups m.member;
    inside = q.inside m.member m.inside;
    in_group = m.in_group;
    held = sym (keys_at m.member m.inside) ∙ m.held;
  }

  held : (g : ℕ) (key : Option Key) → MemberHolds Q itself lower g key → MemberHolds P (group_of groups) labels g key
  held g key h =
      let m = q.onto h.member h.inside in
      record { member = m.0; inside = m.1; in_group = m.2 ∙ h.in_group; held = keys_at m.0 m.1 ∙ ap (label_key Q lower) m.2 ∙ h.held }

  forwards : (g h : ℕ) → MemberForwards P (group_of groups) labels g h → MemberForwards Q itself lower g h
  forwards g h m = record {
    member = group_of groups m.member;
    inside = q.inside m.member m.inside;
    in_group = m.in_group;
    next = group_of groups m.next;
    next_in_group = m.next_in_group;
    forwards = c.down m.member m.next m.inside m.forwards;
  }

  forwarded : (g h : ℕ) → MemberForwards Q itself lower g h → MemberForwards P (group_of groups) labels g h
  forwarded g h f =
      let m = q.onto f.member f.inside in
      let v = c.up m.0 f.next m.1 (subst (λ k. ForwardsTo Q lower k f.next) (sym m.2) f.forwards) in
      record { member = m.0; inside = m.1; in_group = m.2 ∙ f.in_group; next = v.0; next_in_group = v.2 ∙ f.next_in_group; forwards = v.1 }

  pub show_same : ShowSame (picture P (group_of groups) labels) (picture Q itself lower)
  show_same = record { holds = holds; held = held; forwards = forwards; forwarded = forwarded }

turned : (a b : Picture) → ShowSame a b → ShowSame b a
turned a b s = record { holds = s.held; held = s.holds; forwards = s.forwarded; forwarded = s.forwards }

pub pictures_agree : Down → Up → PicturesAgree
pictures_agree down up P Q groups q = record {
  below = λ labels stable. (
      let b = down P Q groups labels q.rules q.small_rules q.admissible q.quotient stable in
      record { labels = b.lower; stable = b.stable; holds = show_same P Q groups q.quotient labels b.lower b.correspond });
  above = λ lower stable. (
      let a = up P Q groups lower q.rules q.small_rules q.admissible q.quotient stable in
      let same = show_same P Q groups q.quotient a.labels lower a.correspond in
      record { labels = a.labels; stable = a.stable; holds = turned (picture P (group_of groups) a.labels) (picture Q itself lower) same });
}

-- whatever is asked of pictures has one answer
module _ (P Q : Problem) (groups : List ℕ) (same : HaveSamePictures P Q groups) (asks : Picture → Type 0) (is : IsOfPictures asks) where
  abbrev above : List (Option Route) → Picture
  above labels = picture P (group_of groups) labels

  abbrev below : List (Option Route) → Picture
  below lower = picture Q itself lower

  pub picture_question_carries : HasOneAnswer P Q groups (λ problem group labels. asks (picture problem group labels))
  picture_question_carries = record {
    every_below = λ each lower stable. (
        let a = same.above lower stable in
        is (above a.labels) (below lower) (turned (below lower) (above a.labels) a.holds) (each a.labels a.stable));
    every_above = λ each labels stable. (
        let b = same.below labels stable in
        is (below b.labels) (above labels) (turned (above labels) (below b.labels) b.holds) (each b.labels b.stable));
    some_below = λ some. (
        let b = same.below some.labels some.stable in
        record { labels = b.labels; stable = b.stable; holds = is (above some.labels) (below b.labels) b.holds some.holds });
    some_above = λ some. (
        let a = same.above some.labels some.stable in
        record { labels = a.labels; stable = a.stable; holds = is (below some.labels) (above a.labels) a.holds some.holds });
  }
