-- A text has more lines than the feature that it spells has rules.
use Rattle.gk_gherkin.proofs.Common.{◌≡◌, ℕ, ◌+◌, ◌<◌, ◌≤◌, ◌^◌, Bool, true, false, cond, nat_eq, List, [], ◌∷◌, ◌++◌, length, drop, Some, ap, arith, length-append, length-drop, common_steps, count_by-le-length, length-slice_split, starts_with, lines, lines_of_parts, Class, FeatureHeading, RuleHeading, LineValue, Lines, byte_order_mark, without_mark, lines_of, IsText, RuleValue, FeatureValue, ContainerValue, rule_container, feature_container, IsIgnored, IsIgnoredAbove, Skips, skip_none, skip, Many, none, more, AreTags, untagged, tagged, IsContainer, IsRule, Reads}
use Rattle.gk_gherkin.proofs.LineNumbering.{length-numbered_from}
use Rattle.gk_gherkin.proofs.Prefixes.{container_lines}

skips_shorten : {Ignored : LineValue → Type 0} {ls rest : Lines} → Skips Ignored ls rest → length rest ≤ length ls
skips_shorten (skip_none {ls = ls}) = omega arith
skips_shorten (skip {l = l} {ls = ls} {rest = rest} i s) = let ih = skips_shorten s in omega (arith, ih)

tags_shorten : {Ignored : LineValue → Type 0} {ls rest : Lines} {tags : List (List ℕ)} → AreTags Ignored ls tags rest → length rest ≤ length ls
tags_shorten (untagged {ls = ls}) = omega arith
tags_shorten (tagged {ls = ls} {mid = mid} {rest = rest} first behind) = let ih = tags_shorten behind in let here = skips_shorten first.next in omega (arith, ih, here)

-- A container has its heading's line at least.
container_shortens : (Ignored : LineValue → Type 0) (kind : Class) (ls : Lines) (x : ContainerValue) (rest : Lines) → IsContainer Ignored kind ls x rest → length rest < length ls
container_shortens Ignored kind ls x rest i = own_shortens ((container_lines Ignored kind ls rest x).0 i) where
  own_shortens : ((own : Lines) × (ls ≡ own ++ rest) × IsContainer Ignored kind own x []) → length rest < length ls
  own_shortens w =
      let above = tags_shorten w.2.heading.above in
      let heading = skips_shorten w.2.heading.heading.next in
      let whole : length ls ≡ length (w.0 ++ rest) = ap length w.1 in
      omega (arith, above, heading, whole, length-append w.0 rest)

rules_shorten : {ls rest : Lines} {rules : List RuleValue} → Many IsRule ls rules rest → length rules + length rest ≤ length ls
rules_shorten (none {ls = ls}) = omega arith
rules_shorten (more {ls = ls} {mid = mid} {rest = rest} {x = x} {xs = xs} rule rules) =
    let ih = rules_shorten rules in
    let here = container_shortens IsIgnored RuleHeading ls (rule_container x) mid rule in
    omega (arith, ih, here)

fewer_than_lines : (ls : Lines) (f : FeatureValue) → Reads ls (Some f) → length f.rules < length ls
fewer_than_lines ls f r =
    let container = container_shortens IsIgnoredAbove FeatureHeading ls (feature_container f) r.1.after_scenarios r.1.container in
    let rules = rules_shorten r.1.rules in
    omega (arith, container, rules)

parts_as_lines : (parts : List (List ℕ)) → length (lines_of_parts parts) ≤ length parts
parts_as_lines [] = omega arith
parts_as_lines (x ∷ []) = grind (arith, common_steps, nat_eq)
parts_as_lines (x ∷ y ∷ parts) = let ih = parts_as_lines (y ∷ parts) in omega (arith, ih)

lines_counted : (text : List ℕ) → length (lines text) ≤ length text + 1
lines_counted text = grind (arith, common_steps, nat_eq, parts_as_lines, length-slice_split, count_by-le-length)

marked_or_not : (marked : Bool) (bytes : List ℕ) → length (cond marked (drop 3 bytes) bytes) ≤ length bytes
marked_or_not true bytes = omega (arith, length-drop 3 bytes)
marked_or_not false bytes = omega arith

pub rules_counted : (bytes : List ℕ) (f : FeatureValue) → IsText bytes → Reads (lines_of bytes) (Some f) → length f.rules < 2 ^ 32
rules_counted bytes f text r =
    let rules = fewer_than_lines (lines_of bytes) f r in
    let same = length-numbered_from 1 (lines (without_mark bytes)) in
    let unmarked = marked_or_not (starts_with nat_eq bytes byte_order_mark) bytes in
    omega (arith, rules, same, lines_counted (without_mark bytes), unmarked, text.0)
