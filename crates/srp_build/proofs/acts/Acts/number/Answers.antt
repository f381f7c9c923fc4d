use Rattle.std.proofs.Common.{◌≡◌, ℕ, List, length, inr, refl, sym, ◌∙◌, subst, arith}
use Rattle.srp_build.specs.declared.acts.BgpAct.{BgpAct}
use Rattle.srp_build.specs.BgpActs.{numbers_under, AreUnlike, AreFoundByFunction}
use Rattle.srp_build.proofs.ActTables.{listed_next, unlike_all}
use Rattle.srp_build.proofs.acts.Acts.number.Goals as goal

pub returns-clause-listed : goal.returns-clause-listed
returns-clause-listed c =
    let act : BgpAct = record { first = c.args.hop.now; import = c.args.import.now; function = c.args.function } in
    let ok = c.args.self.now.acts.ok in
    let next : c.number_of-number.result ≡ length c.args.self.now.acts.items = omega (arith, c.number_of-number.ensures ∙ c.len.ensures) in
    subst (λ (l : List BgpAct). AreFoundByFunction c.note.new.index l) (sym c.in_ok-push.ensures.items)
    (listed_next c.args.self.now.by_function c.note.new.index c.args.self.now.acts.items act c.in_ok-key.key c.number_of-number.result c.requires.listed next
    c.in_ok-key.ensures c.in_ok-note.ensures)

pub returns-clause-number : goal.returns-clause-number
returns-clause-number c =
    let act : BgpAct = record { first = c.args.hop.now; import = c.args.import.now; function = c.args.function } in
    let key = c.in_ok-key.key in
    let found = c.like_among.ensures.none c.in_default.is in
    let among = subst (λ (ns : List ℕ). AreUnlike c.args.store.now c.deref.result.now ns c.args.function) c.numbers_under-numbers.ensures found in
    let unlike = subst (λ (l : List BgpAct). AreUnlike c.args.store.now l (numbers_under c.args.self.now.by_function key) c.args.function)
    c.deref.ensures.value among in
    let ok = c.args.self.now.acts.ok in
    let next : c.number_of-number.result ≡ length c.args.self.now.acts.items = omega (arith, c.number_of-number.ensures ∙ c.len.ensures) in
    inr (record {
      is = record { act = act; last = c.in_ok-push.ensures.items; first = refl; over = refl; next = next };
      function_is = refl;
      apart = unlike_all c.one_form.ensures c.args.store.now c.len-known.ensures.shown c.args.self.now.by_function c.args.self.now.acts.items c.args.function
          key
          c.in_ok-key.ensures c.requires.listed unlike;
    })
