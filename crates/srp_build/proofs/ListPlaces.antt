-- The places of the lists and maps of routers, one router after another.
use Rattle.std.proofs.Common.{◌≡◌, ℕ, ◌+◌, ◌<◌, List, [], ◌∷◌, ◌++◌, inl, inr, length, take, get_or, sym, subst, arith}
use Rattle.cfg_ast.specs.declared.network.Router.{Router}
use Rattle.specialize.specs.declared.places.Places.{Places}
use Rattle.specialize.specs.Places.{ArePlacesOfRouter}
use Rattle.srp_build.specs.ListPlaces.{HavePlaces}
use Rattle.srp_build.proofs.FirstUse.{front_or_last, take_more, length_last, within_get}

-- one more router
pub places_next : (routers : List Router) (i : ℕ) (router d : Router) (places : List Places) (own : Places) → i < length routers → get_or routers i d ≡ router →
    HavePlaces (take i routers) places → ArePlacesOfRouter router own → HavePlaces (take (i + 1) routers) (places ++ own ∷ [])
places_next routers i router d places own inside at so_far is =
    subst (λ (r : List Router). HavePlaces r (places ++ own ∷ [])) (sym (take_more routers i router d inside at)) (record {
      total = (let a = length_last (take i routers) router in let b = length_last places own in let c = so_far.total in omega arith);
      each = λ place r o r_at o_at. elim (front_or_last (take i routers) router place r r_at) [
        | inl before ↦ elim (front_or_last places own place o o_at) [
          | inl there ↦ so_far.each place r o before there
          | inr last ↦ absurd (let a = within_get (take i routers) place r before in let b = so_far.total in let c = last.0 in omega arith)
        ]
        | inr here ↦ elim (front_or_last places own place o o_at) [
          | inl there ↦ absurd (let a = within_get places place o there in let b = so_far.total in let c = here.0 in omega arith)
          | inr last ↦ subst (λ (x : Router). ArePlacesOfRouter x o) here.1 (subst (ArePlacesOfRouter router) last.1 is)
        ]
      ];
    })
