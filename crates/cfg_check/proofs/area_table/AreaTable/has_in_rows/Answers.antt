use Rattle.std.proofs.Common.{◌≤◌, ◌*◌, length, sym, ◌∙◌, arith}
use Rattle.cfg_ast.specs.declared.ospf.AreaLine.{AreaLine}
use Rattle.cfg_ast.specs.meaning.Topology.{line_has_address}
use Rattle.cfg_check.specs.AreaTables.{agrees_below}
use Rattle.cfg_check.proofs.AreaBits.{agrees_in_all, none_in_chunk, one_in_chunk, none_in_all}
use Rattle.cfg_check.proofs.BlockLemmas.{any_same}
use Rattle.cfg_check.proofs.area_table.AreaTable.has_in_rows.Goals as goal

pub loop-chunk-preserved : goal.loop-chunk-preserved
loop-chunk-preserved c = none_in_chunk (agrees_below 8 c.args.addr) c.args.self.now.lines.now c.loop-chunk.chunk c.bits_having.result c.bits_having.ensures
    c.if-bits_having-ne0.false c.loop-chunk.invariant

pub returns-then-bits_having-ne0 : goal.returns-then-bits_having-ne0
returns-then-bits_having-ne0 c =
    let addr = c.args.addr in
    let lines = c.args.self.now.lines.now in
    sym (any_same (λ (line : AreaLine). line_has_address line addr) (agrees_below 8 addr) (λ line. sym (agrees_in_all line addr)) lines
    ∙ one_in_chunk (agrees_below 8 addr) lines c.loop-chunk.chunk c.bits_having.result c.bits_having.ensures c.if-bits_having-ne0.true)

pub returns : goal.returns
returns c =
    let addr = c.args.addr in
    let lines = c.args.self.now.lines.now in
    let covers : length lines ≤ c.loop-chunk.chunk * 64 = omega arith in
    sym (any_same (λ (line : AreaLine). line_has_address line addr) (agrees_below 8 addr) (λ line. sym (agrees_in_all line addr)) lines
    ∙ none_in_all (agrees_below 8 addr) lines (c.loop-chunk.chunk * 64) covers c.loop-chunk.invariant)
