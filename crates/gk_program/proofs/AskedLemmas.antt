-- What the arguments ask for.
use Rattle.gk_program.proofs.Common.{◌≡◌, subst, List, Err, IsAmong, Text, kind_of, Error, SaysArguments, faults_in, WordsFault, SaysAsked, SaysError, Asked, Help, Nothing, Usage, OfRun}
use Rattle.gk_cli.specs.declared.arguments.WordsFault.TheVariants as words
use Rattle.gk_request.specs.declared.run_fault.RunFault.TheVariants.{Memory}

-- what clap says of the arguments
of_error : (arguments : List Text) (error : Error) (asked : Asked) → IsAmong (kind_of error) (faults_in arguments) → SaysError error asked → SaysAsked arguments asked
of_error arguments error (Help text) among says = (kind_of error, says, among)
of_error arguments error (Nothing (Usage text) mode) among says = (kind_of error, says, among)
of_error arguments error (Nothing (OfRun Memory) mode) among says = tt
of_error arguments error _ among says = absurd says

pub of_mistake : (arguments : List Text) (fault : WordsFault) (error : Error) (asked : Asked) → fault ≡ words.Usage error → SaysArguments arguments (Err fault) → SaysError error asked → SaysAsked arguments asked
of_mistake arguments fault error asked is says = of_error arguments error asked (subst (λ f. SaysArguments arguments (Err f)) is says)
