use Rattle.std.proofs.Common.{◌∙◌, ℕ, ◌+◌, ◌-◌, ◌*◌, ◌<◌, cond, nat_eq, length, List, ap, sym, subst, arith}
use Rattle.cut_certificate.specs.Blocks.{first_blocks}
use Rattle.cut_certificate.specs.Uneven.{AreEvenFrom, AreLeaders, IsParting}
use Rattle.cut_certificate.proofs.Leaders.{leaders_split, leaders_longer, even_with_leaders, smaller_some, grown}
use Rattle.cut_certificate.proofs.Movers.{course_total}
use Rattle.cut_certificate.proofs.certifying.refined.Goals as goal

pub leaders-requires-clause-few : goal.leaders-requires-clause-few
leaders-requires-clause-few c =
    let total = course_total c.args.graph.now c.args.course.blocks c.args.course.splits c.requires.course in
    omega (arith, total, ap length c.numbers.ensures, c.requires.few)

pub splitting-init : goal.splitting-init
splitting-init c =
    let course = c.requires.course in
    record {
      after = course.after;
      total = course_total c.args.graph.now c.args.course.blocks c.args.course.splits course;
      counted = c.count-count.ensures.value;
      in_use = c.count-count.ensures.in_use;
      few = course.few ∙ sym c.count-count.ensures.value;
      led = subst (λ (ns : List ℕ). AreLeaders ns c.in_ok-leaders.leaders.items) c.numbers.ensures c.in_ok-leaders.ensures.leaders;
      many = c.in_ok-leaders.ensures.total;
    }

pub returns-then-from-eq0-clause-even : goal.returns-then-from-eq0-clause-even
returns-then-from-eq0-clause-even c =
    let edges = c.args.graph.now.edges in
    let numbers = c.splitting.blocks.numbers in
    let leaders = c.splitting.leaders.items in
    let here : AreEvenFrom edges numbers c.deref.result.now c.splitting.from =
    subst (λ (ns : List ℕ). AreEvenFrom edges ns c.deref.result.now c.splitting.from) c.numbers-in-splitting.ensures c.in-None.ensures in
    let even : AreEvenFrom edges numbers leaders c.splitting.from =
    subst (λ (ls : List ℕ). AreEvenFrom edges numbers ls c.splitting.from) c.deref.ensures.value here in
    even_with_leaders edges numbers leaders c.splitting.invariant.led (subst (AreEvenFrom edges numbers leaders) c.if-from-eq0.true even)

pub splitting-smaller-in-Some : goal.splitting-smaller-in-Some
splitting-smaller-in-Some c =
    let n = c.args.graph.now.count in
    let inv = c.splitting.invariant in
    let g = grown c.args.graph.now (first_blocks c.args.graph.now) c.splitting.blocks c.in_ok-next-in-Some.next c.splitting.splits c.push.new.self
    c.in_ok-next-in-Some.split c.splitting.count c.count-count-in-Some.result inv.after inv.total inv.counted inv.few
    c.in_ok-next-in-Some.ensures.made c.in_ok-next-in-Some.ensures.place c.in_ok-push-in-Some.ensures.ok c.count-count-in-Some.ensures.value in
    let few = c.in_ok-next-in-Some.ensures.in_use.few in
    let low : 2 * (n - c.count-count-in-Some.result) + cond (nat_eq c.in-Some.router 0) 0 1
    < 2 * (n - c.splitting.count) + cond (nat_eq c.splitting.from 0) 0 1 =
    smaller_some n c.splitting.count c.count-count-in-Some.result c.splitting.from c.in-Some.router g.1 (omega (arith, few, g.0.total, g.0.one_more)) in
    low

pub splitting-preserved-in-Some : goal.splitting-preserved-in-Some
splitting-preserved-in-Some c =
    let inv = c.splitting.invariant in
    let g = grown c.args.graph.now (first_blocks c.args.graph.now) c.splitting.blocks c.in_ok-next-in-Some.next c.splitting.splits c.push.new.self
    c.in_ok-next-in-Some.split c.splitting.count c.count-count-in-Some.result inv.after inv.total inv.counted inv.few
    c.in_ok-next-in-Some.ensures.made c.in_ok-next-in-Some.ensures.place c.in_ok-push-in-Some.ensures.ok c.count-count-in-Some.ensures.value in
    let parting : IsParting c.args.graph.now.edges c.splitting.blocks.numbers c.in-Some.p =
    subst (λ (ns : List ℕ). IsParting c.args.graph.now.edges ns c.in-Some.p) c.numbers-in-splitting.ensures c.in-Some.ensures in
    let long = leaders_longer c.splitting.leaders.items c.lead.new.leaders.items (c.in_ok-next-in-Some.split.block - 1) c.in-Some.p.stays c.in-Some.p.goes
    c.in_ok-lead-in-Some.ensures in
    record {
      after = g.0.after;
      total = g.0.total;
      counted = g.0.one_more;
      in_use = c.in_ok-next-in-Some.ensures.in_use;
      few = g.0.few;
      led = leaders_split c.args.graph.now.edges c.splitting.blocks c.in_ok-next-in-Some.next c.in-Some.p c.in_ok-next-in-Some.split c.splitting.leaders.items
          c.lead.new.leaders.items inv.in_use inv.led (inv.many ∙ inv.counted) parting c.in_ok-next-in-Some.ensures.by c.in_ok-next-in-Some.ensures.made
          c.in_ok-lead-in-Some.ensures;
      many = omega (arith, long, g.1, inv.many);
    }
