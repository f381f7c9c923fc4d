use Rattle.std.proofs.Common.{ℕ, List, Vec, Global, sym, ap, subst, arith, string_bytes, ◌≤◌, length}
use Rattle.std.specs.Prelude.{Contains}
use Rattle.std.proofs.lemmas.List.Elements.{All-contains_itself}
use Rattle.cfg_ast.specs.declared.classes.DestClass.{DestClass}
use Rattle.answer_reports.proofs.Summaries.{next_line, all_lines}
use Rattle.answer_reports.proofs.summary.lines_of.Goals as goal

pub loop-i-preserved : goal.loop-i-preserved
loop-i-preserved c =
    let n = c.args.checked.now.network in
    let classes = c.args.classes.now in
    let class : DestClass = c.index-classes-i.result in
    let listed : Contains classes class = subst (λ (x : DestClass). Contains classes x) (sym c.index-classes-i.is)
    (All-contains_itself classes c.loop-i.i class c.loop-i-test.true) in
    record {
      shared = c.in_ok-made.ensures.shared;
      last = (class, subst (λ (all : List DestClass). Contains all class) c.requires listed, c.in_ok-made.ensures.made);
      lines = next_line n classes c.loop-i.i class (string_bytes c.loop-i.text) (string_bytes c.put_line.new.text)
          c.loop-i-test.true c.index-classes-i.is (c.in_ok-put_line.ensures n class c.link_count-before.ensures c.in_ok-made.ensures.made)
          c.loop-i.invariant.lines;
    }

pub returns : goal.returns
returns c =
    let past : length c.args.classes.now ≤ c.loop-i.i = omega (arith, c.loop-i-test.false) in
    all_lines c.args.checked.now.network c.args.classes.now c.loop-i.i (string_bytes c.loop-i.text) c.into_bytes.result.items past
    (ap (λ (v : Vec ℕ Global). v.items) c.into_bytes.ensures.value) c.loop-i.invariant.lines
