-- The ranges of the settings (docs/REFERENCE.md, "Sessions", "Exploring", "Races", "Every order" and "Pictures"; this project's own).
use Rattle.std.specs.Prelude.{ℕ, ◌≤◌, IfSome}
use Rattle.ga_console.specs.declared.settings.Settings.{Settings}
use Rattle.ga_console.specs.declared.settings.Settings.TheVariants.{Debug, Explore, Race, Check, Dap, Assemble, List, Disassemble, Draw}

abbrev pub IsNumberBetween : ℕ → ℕ → ℕ → Type 0
IsNumberBetween least greatest n = (least ≤ n) × (n ≤ greatest)

-- each number is in its range
abbrev pub AreSettingsInRange : Settings → Type 0
AreSettingsInRange (Debug limit) = IsNumberBetween 1 4000000 limit
AreSettingsInRange (Explore limit strict json chip file) = IsNumberBetween 1 100000000 limit
AreSettingsInRange (Race workers calls limit) = IsNumberBetween 1 16 workers × IsNumberBetween 1 100000 calls × IsNumberBetween 1 4000000 limit
AreSettingsInRange (Check most seconds settled session never ends same json progress files) = IsNumberBetween 1 4294967295 most × IfSome seconds (IsNumberBetween 1 4294967295) × IfSome session (IsNumberBetween 1 4294967295)
AreSettingsInRange Dap = Unit {0}
AreSettingsInRange (Assemble json file) = Unit {0}
AreSettingsInRange (List file) = Unit {0}
AreSettingsInRange (Disassemble file) = Unit {0}
AreSettingsInRange (Draw limit cause rewind from to all only fold races chip file) = IsNumberBetween 1 100000000 limit × IsNumberBetween 1 4294967295 from × IsNumberBetween 1 4294967295 to
