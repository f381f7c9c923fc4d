-- The least fault, kind by kind.
use Rattle.std.proofs.Common.{◌≡◌, ℕ, Bool, true, false, cond, List, [], ◌∷◌, ◌++◌, Option, Some, None, nat_lt, refl, sym, ap, ◌∙◌, arith}
use Rattle.std.proofs.lemmas.Bool.Decides.{nat_tests}
use Rattle.cfg_ast.specs.declared.refusal.Kind.{Kind}
use Rattle.cfg_ast.specs.declared.refusal.Fault.{Fault}
use Rattle.cfg_ast.specs.meaning.Meaning.{faults_at, lesser_fault, least_fault}
use Rattle.cfg_check.specs.LeastLine.{lesser_line, least_line, fault_at}

pub lesser_fault_none : (o : Option Fault) → lesser_fault o None ≡ o
lesser_fault_none None = refl
lesser_fault_none (Some f) = refl

least_of_three : (f g h : Fault) (gf hg hf : Bool) → nat_lt g.line f.line ≡ gf → nat_lt h.line g.line ≡ hg → nat_lt h.line f.line ≡ hf
    → (gf ≡ true → hg ≡ true → hf ≡ true) → (gf ≡ false → hg ≡ false → hf ≡ false)
    → lesser_fault (Some f) (lesser_fault (Some g) (Some h)) ≡ lesser_fault (lesser_fault (Some f) (Some g)) (Some h)
least_of_three f g h true true hf a b c up down = rw (a, b) (rw (c ∙ up refl refl) refl)
least_of_three f g h true false hf a b c up down = rw (a, b) (rw a refl)
least_of_three f g h false true hf a b c up down = rw (a, b) refl
least_of_three f g h false false hf a b c up down = rw (a, b) (rw (a, c ∙ down refl refl) refl)

through : (a b c : ℕ) → nat_lt b a ≡ true → nat_lt c b ≡ true → nat_lt c a ≡ true
through a b c e f = grind (arith, nat_tests)

through_not : (a b c : ℕ) → nat_lt b a ≡ false → nat_lt c b ≡ false → nat_lt c a ≡ false
through_not a b c e f = grind (arith, nat_tests)

three_faults : (f g h : Fault) → lesser_fault (Some f) (lesser_fault (Some g) (Some h)) ≡ lesser_fault (lesser_fault (Some f) (Some g)) (Some h)
three_faults f g h = least_of_three f g h (nat_lt g.line f.line) (nat_lt h.line g.line) (nat_lt h.line f.line) refl refl refl
    (through f.line g.line h.line) (through_not f.line g.line h.line)

lesser_fault-assoc : (a b c : Option Fault) → lesser_fault a (lesser_fault b c) ≡ lesser_fault (lesser_fault a b) c
lesser_fault-assoc None b c = refl
lesser_fault-assoc (Some f) None c = refl
lesser_fault-assoc (Some f) (Some g) None = sym (lesser_fault_none (lesser_fault (Some f) (Some g)))
lesser_fault-assoc (Some f) (Some g) (Some h) = three_faults f g h

pub least_fault-append : (fs gs : List Fault) → least_fault (fs ++ gs) ≡ lesser_fault (least_fault fs) (least_fault gs)
least_fault-append [] gs = refl
least_fault-append (f ∷ fs) gs = ap (lesser_fault (Some f)) (least_fault-append fs gs) ∙ lesser_fault-assoc (Some f) (least_fault fs) (least_fault gs)

chosen : (what : Kind) (x y : ℕ) (b : Bool) → cond b (fault_at what (Some y)) (fault_at what (Some x)) ≡ fault_at what (cond b (Some y) (Some x))
chosen what x y true = refl
chosen what x y false = refl

two_lines : (what : Kind) (x y : ℕ) → lesser_fault (fault_at what (Some x)) (fault_at what (Some y)) ≡ fault_at what (lesser_line (Some x) (Some y))
two_lines what x y = chosen what x y (nat_lt y x)

line_more : (what : Kind) (x : ℕ) (o : Option ℕ) → lesser_fault (fault_at what (Some x)) (fault_at what o) ≡ fault_at what (lesser_line (Some x) o)
line_more what x None = refl
line_more what x (Some y) = two_lines what x y

-- the least fault of one kind
pub least_of_kind : (what : Kind) (lines : List ℕ) → least_fault (faults_at what lines) ≡ fault_at what (least_line lines)
least_of_kind what [] = refl
least_of_kind what (x ∷ lines) = ap (lesser_fault (fault_at what (Some x))) (least_of_kind what lines) ∙ line_more what x (least_line lines)

-- one kind more
pub kind_step : (fs : List Fault) (what : Kind) (lines : List ℕ) (o result : Option Fault) (line : Option ℕ) → o ≡ least_fault fs → line ≡ least_line lines →
    result ≡ lesser_fault o (fault_at what line) → result ≡ least_fault (fs ++ faults_at what lines)
kind_step fs what lines o result line so_far is step =
    step ∙ ap (λ p. lesser_fault p (fault_at what line)) so_far ∙ ap (λ l. lesser_fault (least_fault fs) (fault_at what l)) is
    ∙ ap (lesser_fault (least_fault fs)) (sym (least_of_kind what lines)) ∙ sym (least_fault-append fs (faults_at what lines))

-- no fault is least only where there is none
pub none_least : (fs : List Fault) → least_fault fs ≡ None → fs ≡ []
none_least [] e = refl
none_least (f ∷ fs) e = absurd (some_stays f (least_fault fs) e)
  where
    either : (f g : Fault) (b : Bool) → cond b (Some g) (Some f) ≡ None → ⊥
    either f g true e = cc
    either f g false e = cc

    some_stays : (f : Fault) (o : Option Fault) → lesser_fault (Some f) o ≡ None → ⊥
    some_stays f None e = cc
    some_stays f (Some g) e = either f g (nat_lt g.line f.line) e
