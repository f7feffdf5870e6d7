use Rattle.gk_steps.proofs.Common.{List, sym, subst, Entry, IsIndexOf}
use Rattle.gk_steps.proofs.EntryIndexLemmas.{listed_push}
use Rattle.gk_steps.proofs.library.LibraryBuilder.push.Goals as goal

pub grow-requires : goal.grow-requires
grow-requires c =
    let index = c.args.self.now.index in
    subst (IsIndexOf index) (sym c.deref.ensures.value) (listed_push index c.args.self.now.entries.items c.push.new.self.items c.args.entry c.in_ok-push.ensures.items c.requires)

pub returns-clause-indexed : goal.returns-clause-indexed
returns-clause-indexed c = subst (λ (es : List Entry). IsIndexOf c.grow.new.self es) c.deref.ensures.value c.in_ok-grow.ensures
