use Rattle.std.proofs.Common.{◌≡◌, ◌++◌, not, map, drop}
use Rattle.std.specs.List.{filter}
use Rattle.base_kit.specs.Sets.{has}
use Rattle.policy_dd.proofs.exact.part.Given as goal

abbrev pub invariant-loop-line : goal.invariant-loop-line
invariant-loop-line l = record {
  named : map (λ line. line.now) l.named.items ++ filter (λ line. has line.comms l.community) (map (λ line. line.now) (drop l.line-index l.lines)) ≡ filter
      (λ line. has line.comms l.community) (map (λ line. line.now) l.lines);
  unnamed : map (λ line. line.now) l.unnamed.items
      ++ filter (λ line. not (has line.comms l.community)) (map (λ line. line.now) (drop l.line-index l.lines)) ≡ filter
      (λ line. not (has line.comms l.community)) (map (λ line. line.now) l.lines);
}
