-- A change that memory cannot stop is one of those that it can.
use Rattle.std.proofs.Common.{◌≡◌, ℕ, Bool, true, false, subst, List, [], ◌∷◌, ◌==◌, Some, Result, Ok, Err}
use Rattle.std.specs.Prelude.{OnErr, ⊤, is_some, if◌then◌else◌}
use Rattle.cfg_ast.specs.declared.bgp.Base.{Base}
use Rattle.cfg_ast.specs.declared.bgp.Neighbor.{Neighbor}
use Rattle.cfg_ast.specs.declared.bgp.BgpProcess.{BgpProcess}
use Rattle.cfg_ast.specs.declared.items.RouterItem.{RouterItem}
use Rattle.cfg_ast.specs.declared.items.RouterItem.TheVariants as item
use Rattle.cfg_ast.specs.declared.refusal.ReadRefusal.{ReadRefusal}
use Rattle.cfg_ast.specs.declared.refusal.ReadRefusal.TheVariants as refusal
use Rattle.cfg_ast.specs.text.Answers.{RefusesAs}
use Rattle.cfg_ast.specs.text.Stanzas.{once, set_neighbor, at_neighbor, with_peer, set_process}
use Rattle.cfg_ast.specs.text.Steps.{◌>>=◌}
use Rattle.cfg_stanzas.specs.Changes.{Changes, Keeps, Sets}

pub refused_as : {X : Type 0} (fault : ReadRefusal) (defined : Result X ReadRefusal) → defined ≡ Err fault → RefusesAs fault defined
refused_as (refusal.At line kind) defined e = e
refused_as refusal.Memory defined e = tt

pub set_changes : {X Y : Type 0} (r : Result Y ReadRefusal) (now : X) (defined : Result X ReadRefusal) → Sets r now defined → Changes r now defined
set_changes (Ok y) now defined e = e
set_changes (Err fault) now defined e = refused_as fault defined e

-- ---- memory does not run out

-- the definition does not answer that memory ran out
abbrev pub NeedsNoMemory : {X : Type 0} → Result X ReadRefusal → Type 0
NeedsNoMemory (Ok x) = ⊤
NeedsNoMemory (Err (refusal.At line kind)) = ⊤
NeedsNoMemory (Err refusal.Memory) = ⊥

pub set_keeps : {X Y : Type 0} (r : Result Y ReadRefusal) (old now : X) (defined : Result X ReadRefusal) (left : Type 0) → Sets r now defined →
    OnErr r (now ≡ old) → NeedsNoMemory defined → Keeps r old now left
set_keeps (Ok y) old now defined left sets kept has = tt
set_keeps (Err (refusal.At line kind)) old now defined left sets kept has = kept
set_keeps (Err refusal.Memory) old now defined left sets kept has = absurd (subst NeedsNoMemory sets has)

once_has : {X : Type 0} (n : ℕ) (is_given : Bool) (x : X) → NeedsNoMemory (once n is_given x)
once_has n true x = tt
once_has n false x = tt

base_has : (n : ℕ) (base : Base) (b : BgpProcess) → NeedsNoMemory (set_process n (item.Base base) b)
unfolding set_process
base_has n base b = once_has n (is_some b.base) (record b { base = Some base })

neighbor_has : (n : ℕ) (said : RouterItem) (p : Neighbor) → NeedsNoMemory (set_neighbor n said p)
unfolding set_neighbor
neighbor_has n (item.PeerList addr list true) p = once_has n (is_some p.list_in) (record p { list_in = Some list })
neighbor_has n (item.PeerList addr list false) p = once_has n (is_some p.list_out) (record p { list_out = Some list })
neighbor_has n (item.PeerMap addr map true) p = once_has n (is_some p.map_in) (record p { map_in = Some map })
neighbor_has n (item.PeerMap addr map false) p = once_has n (is_some p.map_out) (record p { map_out = Some map })
neighbor_has n _ p = tt

then_has : {A B : Type 0} (r : Result A ReadRefusal) (f : A → B) → NeedsNoMemory r → NeedsNoMemory (r >>= (λ (x : A). Ok (f x)))
then_has (Ok x) f has = tt
then_has (Err (refusal.At line kind)) f has = tt
then_has (Err refusal.Memory) f has = has

at_has : (n addr : ℕ) (said : RouterItem) (peers : List Neighbor) → NeedsNoMemory (at_neighbor n addr (set_neighbor n said) peers)
unfolding at_neighbor
at_has n addr said [] = tt
at_has n addr said (p ∷ peers) = by (at_has n addr said peers) (p.addr == addr)
  where
    by : NeedsNoMemory (at_neighbor n addr (set_neighbor n said) peers) → (here : Bool) →
        NeedsNoMemory (if here then set_neighbor n said p >>= (λ (q : Neighbor). Ok (q ∷ peers))
        else at_neighbor n addr (set_neighbor n said) peers >>= (λ (qs : List Neighbor). Ok (p ∷ qs)))
    by rest true = then_has (set_neighbor n said p) (λ q. q ∷ peers) (neighbor_has n said p)
    by rest false = then_has (at_neighbor n addr (set_neighbor n said) peers) (λ qs. p ∷ qs) rest

pub peer_has : (n addr : ℕ) (said : RouterItem) (b : BgpProcess) → NeedsNoMemory (with_peer n addr said b)
peer_has n addr said b = then_has (at_neighbor n addr (set_neighbor n said) b.neighbors) (λ peers. record b { neighbors = peers })
    (at_has n addr said b.neighbors)
