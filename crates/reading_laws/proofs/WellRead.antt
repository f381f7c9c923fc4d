-- Public: a network that is read is given by its text, and no fault stands in it.
use Rattle.std.proofs.Common.{◌≡◌, ℕ, Bool, true, false, List, [], ◌∷◌, refl, sym, ap, ◌∙◌, subst, Option, Some, None, Result, Ok, Err, if◌then◌else◌}
use Rattle.cfg_ast.specs.declared.network.Network.{Network}
use Rattle.cfg_ast.specs.declared.refusal.Fault.{Fault}
use Rattle.cfg_ast.specs.declared.refusal.ReadRefusal.{ReadRefusal}
use Rattle.cfg_ast.specs.meaning.Meaning.{judged, refused_by, least_fault, lesser_fault, meaning_faults}
use Rattle.cfg_ast.specs.text.Reading.{network_of_text, reading_of}
use Rattle.cfg_ast.specs.text.Steps.{◌>>=◌}
use Rattle.cfg_check.specs.Faultless.{IsFaultless}
use Rattle.cfg_check.proofs.Faultless.{faultless_of}
use Rattle.reading_laws.specs.WellRead.{IsRead, WhatIsReadIsWell}

-- ---- a network that is accepted has no fault

no_fault : (fs : List Fault) → least_fault fs ≡ None → fs ≡ []
no_fault [] e = refl
no_fault (f ∷ fs) e = absurd (step (least_fault fs) e)
  where
    by : (b : Bool) (g : Fault) → (if b then Some g else Some f) ≡ None → ⊥
    by true g e = cc
    by false g e = cc

    step : (o : Option Fault) → lesser_fault (Some f) o ≡ None → ⊥
    step None e = cc
    step (Some g) e = by _ g e

accepted : (n m : Network) (o : Option Fault) → refused_by n o ≡ Ok m → (o ≡ None) × (n ≡ m)
accepted n m None e = (refl, cc)
accepted n m (Some f) e = absurd cc

judged_well : (n m : Network) → judged n ≡ Ok m → IsFaultless n × (n ≡ m)
unfolding judged
judged_well n m e = let a = accepted n m (least_fault (meaning_faults n)) e in (faultless_of n (no_fault (meaning_faults n) a.0), a.1)

-- ---- a network that was read

pub reads_well : WhatIsReadIsWell
unfolding reading_of
reads_well text n e = step (network_of_text text) refl e
  where
    step : (r : Result Network ReadRefusal) → network_of_text text ≡ r → (r >>= judged) ≡ Ok n → IsRead text n
    step (Err refusal) is e = absurd cc
    step (Ok m) is e =
        let j = judged_well m n e in
        record { given = is ∙ ap (λ (k : Network). Ok k) j.1; faultless = subst IsFaultless j.1 j.0 }
