use Rattle.gk_cli.proofs.Common.{◌∙◌, rules, ap, is_some, map, refl, string_bytes, sym, found_of, is_format}
use Rattle.gk_cli.proofs.ArgumentsLemmas.{format_read, found_lines, says_clash, says_fault, says_found, says_unknown}
use Rattle.gk_cli.proofs.arguments.words_by.Goals as goal

pub returns-in_err-matches : goal.returns-in_err-matches
returns-in_err-matches c =
    says_fault (map string_bytes c.args.words.now) c.args.reader.now c.in_err-matches.field-0.0 c.from_residual.result
    c.requires c.in_err-matches.ensures.kinds (search rules)

pub returns-in-Some : goal.returns-in-Some
returns-in-Some c =
    let ensures = c.in_ok-matches.ensures in
    says_clash (map string_bytes c.args.words.now) c.args.reader.now c.in_ok-matches.matches c.in_ok-clash.field-0
    c.requires ensures.ok.2 ensures.kinds (sym c.in-Some.ensures) c.in_ok-clash.ensures

pub words_of-requires-clause-lines : goal.words_of-requires-clause-lines
words_of-requires-clause-lines c =
    let ensures = c.in_ok-matches.ensures in
    found_lines c.args.reader.now c.try_get_matches_from_mut.new.self c.in_ok-matches.matches c.requires ensures.fails ensures.after ensures.ok.0 ensures.ok.1

pub words_of-requires-clause-format : goal.words_of-requires-clause-format
words_of-requires-clause-format c =
    c.in-Some-format_named.ensures.named ∙ format_read (found_of c.in_ok-matches.matches) c.get_str.result _ c.unwrap_or-name.result c.unwrap_or-name.ensures refl c.get_str.ensures

pub returns-in-Some-format_named : goal.returns-in-Some-format_named
returns-in-Some-format_named c =
    let ensures = c.in_ok-matches.ensures in
    let format = format_read (found_of c.in_ok-matches.matches) c.get_str.result _ c.unwrap_or-name.result c.unwrap_or-name.ensures refl c.get_str.ensures in
    says_found (map string_bytes c.args.words.now) c.args.reader.now c.try_get_matches_from_mut.new.self c.in_ok-matches.matches c.words_of.result
    c.requires ensures.fails ensures.after ensures.ok.0 ensures.ok.1 ensures.ok.2 ensures.kinds (sym c.in_default.ensures) (ap is_format (sym format) ∙ ap is_some (sym c.in-Some-format_named.ensures.found)) c.words_of.ensures

pub returns : goal.returns
returns c =
    let ensures = c.in_ok-matches.ensures in
    let format = format_read (found_of c.in_ok-matches.matches) c.get_str.result _ c.unwrap_or-name.result c.unwrap_or-name.ensures refl c.get_str.ensures in
    says_unknown (map string_bytes c.args.words.now) c.args.reader.now c.in_ok-matches.matches c.in_ok-unknown_format-in-None.field-0
    c.requires ensures.ok.2 ensures.kinds (sym c.in_default.ensures) (ap is_format (sym format) ∙ ap is_some (sym c.in-None.ensures.found)) c.in_ok-unknown_format-in-None.ensures
