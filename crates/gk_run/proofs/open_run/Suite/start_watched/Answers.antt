use Rattle.gk_run.proofs.Common.{refl, has_passed}
use Rattle.gk_run.proofs.OpenRunLemmas.{open_by}
use Rattle.gk_run.proofs.open_run.Suite.start_watched.Goals as goal

pub returns : goal.returns
returns g c =
    let section = c.open_section-section.result in
    let opens = c.open_section-section.ensures in
    (record { runs = refl; opened = opens.0; stops = refl; unfailed = refl; opens = open_by (has_passed section.before) c.args.stop }, opens.1)
