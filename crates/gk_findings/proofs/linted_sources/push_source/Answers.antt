use Rattle.gk_findings.proofs.Common.{◌++◌, ◌∙◌, ap, map, option_map, refl, string_bytes, subst, lines, without_mark, feature_value, AreInOrder, finding_values, noted_library_value, noted_lines, source_findings}
use Rattle.gk_findings.proofs.linted_sources.push_source.Goals as goal

pub returns-clause-appended : goal.returns-clause-appended
returns-clause-appended c =
    let library = noted_library_value c.args.library.now in
    let reading = option_map feature_value c.args.feature.now in
    let old = string_bytes c.args.out.now in
    let name = string_bytes c.args.source.now.name in
    let found = finding_values c.in_ok-found.found.findings.items in
    let all = lines (without_mark c.args.source.now.bytes.items) in
    let is_all = c.in_ok-lines.ensures.lines ∙ ap lines (c.known_text.ensures.text ∙ ap without_mark c.as_slice.ensures.value) in
    let texts = map (λ text. text.now) in
    record {
      this = noted_lines library.name name all found;
      linted = record {
        read = c.requires;
        ordered = found;
        in_order = subst (λ ls. AreInOrder (source_findings library reading ls) found) (ap texts c.deref.ensures.value ∙ is_all) c.in_ok-found.ensures.found;
        whole = refl;
      };
      text = c.in_ok-push_noted_findings.ensures
          ∙ ap (λ n. old ++ noted_lines library.name n (texts c.deref-2.result.now) (finding_values c.deref-3.result.now)) c.as_str-name.ensures.value
          ∙ ap (λ ls. old ++ noted_lines library.name name ls (finding_values c.deref-3.result.now)) (ap texts c.deref-2.ensures.value ∙ is_all)
          ∙ ap (λ fs. old ++ noted_lines library.name name all (finding_values fs)) c.deref-3.ensures.value;
    }
