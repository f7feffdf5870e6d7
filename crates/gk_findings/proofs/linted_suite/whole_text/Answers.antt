use Rattle.gk_findings.proofs.Common.{◌++◌, ◌∙◌, map, ap, ap₂, subst, string_bytes, feature_value, hooks_value, AreInOrder, nowhere, without_scenario, hooks_of_no_tag, of_hooks, found_in, bytes_of, hooks_name, files_value, noted_library_value, noted_lines, tag_lines, idle_lines, looked_up, lines_of_hooks, finding_values, library_lines}
use Rattle.gk_findings.proofs.LintedSuiteLemmas.{five_parts}
use Rattle.gk_findings.proofs.linted_suite.whole_text.Goals as goal

pub returns : goal.returns
returns c =
    let files = files_value c.args.files.now in
    let noted = noted_library_value c.args.library.now in
    let hooks = hooks_value c.args.before.now.hooks in
    let found = finding_values c.in_ok-of_hooks.of_hooks.findings.items in
    let used = c.as_slice-9.ensures.value ∙ c.in_ok-append.ensures.items ∙ ap₂ (λ l m. l ++ m) c.in_ok-of_hooks.ensures.used c.requires.used in
    let tags =
    ap (map (λ t. t.now)) c.as_slice-5.ensures.value ∙ c.in_ok-tags.ensures ∙ ap₂ (λ features rules. nowhere (map feature_value features) rules) c.as_slice-4.ensures.value c.as_slice-3.ensures.value in
    let idle =
    c.as_slice-8.ensures.value ∙ c.in_ok-idle.ensures ∙ ap₂ (λ features lines. without_scenario (map feature_value features) lines) c.as_slice-7.ensures.value c.as_slice-6.ensures.value in (
      found,
      subst (λ features. AreInOrder (hooks_of_no_tag (map feature_value features) hooks ++ found_in noted.entries (looked_up noted.steps (of_hooks hooks))) found) c.as_slice.ensures.value c.in_ok-of_hooks.ensures.found,
      five_parts _ _ _ _ _ _ _ _ _ _ _ c.new-text.ensures.bytes
          (c.in_ok-push_noted_findings.ensures
          ∙ ap₂ (λ name lines. string_bytes c.new-text.result ++ noted_lines noted.name name lines (finding_values c.as_slice-2.result.now)) c.name_of.ensures (ap (map (λ text. text.now)) c.deref.ensures.value ∙ c.in_ok-lines.ensures)
          ∙ ap (λ findings. string_bytes c.new-text.result ++ noted_lines noted.name (hooks_name files) (lines_of_hooks (bytes_of files.hooks)) (finding_values findings)) c.as_slice-2.ensures.value)
          (c.in_ok-push_str.ensures.bytes ∙ ap (λ text. string_bytes c.push_noted_findings.new.out ++ text) c.as_str.ensures.value)
          (c.in_ok-push_tag_lines.ensures ∙ ap (λ tags. string_bytes c.push_str.new.self ++ tag_lines tags) tags)
          (c.in_ok-push_idle_lines.ensures ∙ ap (λ lines. string_bytes c.push_tag_lines.new.out ++ idle_lines lines) idle)
          (c.in_ok-push_library_lines.ensures ∙ ap (λ places. string_bytes c.push_idle_lines.new.out ++ library_lines (bytes_of files.library) noted places) used),
    )
