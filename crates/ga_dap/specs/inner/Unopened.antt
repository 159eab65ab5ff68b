-- Why a program is not opened.
use Rattle.ga_dap.specs.declared.opening.LaunchError.{LaunchError}
use Rattle.ga_dap.specs.declared.opening.LaunchError.TheVariants.{Memory, SourceFault}

-- this holds where the text has a fault; memory can be refused to each text
abbrev pub HoldsIfLaunchTextFault : LaunchError → Type 0 → Type 0
HoldsIfLaunchTextFault Memory P = Unit {0}
HoldsIfLaunchTextFault (SourceFault why) P = P
