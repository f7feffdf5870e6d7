use Rattle.std.proofs.Common.{◌∙◌, ap, option_map, Bor, List, ℕ}
use Rattle.gk_c.specs.CallerFiles.{bytes_of}
use Rattle.gk_c.proofs.caller_files.InMemory.named.Goals as goal

pub returns-in-Some : goal.returns-in-Some
returns-in-Some c =
    ap (option_map (λ (bytes : Bor (List ℕ)). bytes.now)) (c.copied.ensures ∙ c.get.ensures.value)
    ∙ c.self.invariant c.in-Some.index c.in-Some.is c.args.name.now
    ∙ ap (λ files. bytes_of files c.args.name.now) c.self.view_is
