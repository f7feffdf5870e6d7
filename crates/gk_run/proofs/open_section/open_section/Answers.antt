use Rattle.gk_run.proofs.Common.{[], ap, rules, subst, ◌∙◌, ◌≡◌, texts, hooks_value, library_value, enter, state_of, SectionNow, section_now, before_of, before_list, entered, walk, Happens}
use Rattle.gk_run.specs.declared.ending.Ending.TheVariants as endings
use Rattle.gk_run.proofs.WalkLemmas.{at}
use Rattle.gk_run.proofs.open_section.open_section.Goals as goal

pub returns : goal.returns
returns g c =
    let hears = g.O.Observer.hears in
    let library = library_value c.args.run.now.library.now in
    let level = c.args.section.now.level in
    let list = before_list (hooks_value c.args.run.now.hooks.now.file.now) level (texts c.args.section.now.tags.now) in
    let outside = state_of c.args.sandbox.now.now in
    let inside = state_of c.begin-layer.new.self.now in
    let enters : inside ≡ enter outside = ap (λ s. state_of s.now) c.begin-layer.ensures.ok ∙ c.layers_enter.ensures c.args.sandbox.now.now in
    let start : at inside c.new-cleanups.result ≡ entered outside = ap (at inside) c.new-cleanups.ensures ∙ ap (λ s. at s []) enters in
    let now = section_now c.walk_before-before.new.sandbox c.walk_before-before.new.cleanups in
    let walked = subst (λ (x : SectionNow). Happens hears endings.Passed (walk library (before_of level) x.state list) x now c.walk_before-before.result c.args.observer.now c.walk_before-before.new.observer) start c.walk_before-before.ensures.walked in (
      record {
        first = walked.messages;
        begins = record { so_far = walked.so_far; ends = walked.ends; leaves = walked.leaves };
        layer = search rules;
        saved = search rules;
        starts = search rules;
      },
      walked.heard,
    )
