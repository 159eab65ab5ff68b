-- What is opened by `launch` (Debug Adapter Protocol, "LaunchRequest"): a file that is an image or source, as docs/REFERENCE.md says of exploring.
use Rattle.std.specs.Prelude.{◌≡◌, ◌⊎◌, ℕ, List, [], map, true, false, Option, None}
use Rattle.ga_grid.specs.declared.node_id.NodeId.{NodeId}
use Rattle.ga_image.specs.FirstFault.{IsFirstImageFault}
use Rattle.ga_image.specs.declared.fault.ImageFault.{ImageFault}
use Rattle.ga_lab.specs.Machine.{MachineState}
use Rattle.ga_console.specs.Run.{IsOpenedOnImage as OpensImage}
use Rattle.ga_debug_info.specs.declared.notes.DebugInfo.{DebugInfo}
use Rattle.ga_source.specs.Programs.{AreProgramsOfSource}
use Rattle.ga_source.specs.declared.program.Program.{Program}
use Rattle.ga_source.specs.Made.{IsPlainSource}
use Rattle.ga_state_expectations.specs.declared.cause.ExpectationFault.{ExpectationFault}
use Rattle.ga_state_expectations.specs.Sources.{HasFaultyExpectations}
use Rattle.ga_text.specs.Lines.{Bytes, lines_of_text}
use Rattle.ga_explorer.specs.Opening.{explorer_state, begins_as_image, OpensSource}
use Rattle.ga_dap_queries.specs.declared.debuggee.Debuggee.{Debuggee}

-- a text is opened as this machine, with debug info if it is source
abbrev pub OpensTextAsProgram : Bytes → ℕ → MachineState → Option DebugInfo → Type 0
OpensTextAsProgram text limit lab source = ((begins_as_image text ≡ true) × OpensImage text limit lab × (source ≡ None))
    ⊎ ((begins_as_image text ≡ false) × OpensSource text limit (explorer_state lab source))

-- a text is opened as a program
abbrev pub OpensProgram : Bytes → ℕ → Debuggee → Type 0
OpensProgram text limit p = OpensTextAsProgram text limit p.lab p.source

-- a source isn't plain words which give each cell once, or what it expects of its programs has a fault
abbrev pub IsRefusedSource : Bytes → Type 0
IsRefusedSource source = (IsPlainSource source → ⊥) ⊎ ((faults : List ExpectationFault) × HasFaultyExpectations source faults)

-- a text is no program: an image with a fault, or source that is refused
abbrev pub IsRefusedProgramText : Bytes → Type 0
IsRefusedProgramText text = ((begins_as_image text ≡ true) × (fault : ImageFault) × IsFirstImageFault (lines_of_text text) fault)
    ⊎ ((begins_as_image text ≡ false) × IsRefusedSource text)

-- the nodes that have a program in the source; of an image none
abbrev pub AreNodesOfSource : Bytes → List NodeId → Type 0
AreNodesOfSource source nodes = (programs : List Program) × AreProgramsOfSource source programs × (nodes ≡ map (λ (p : Program). p.node) programs)

abbrev pub AreProgramNodes : Bytes → List NodeId → Type 0
AreProgramNodes text nodes = ((begins_as_image text ≡ true) × (nodes ≡ [])) ⊎ ((begins_as_image text ≡ false) × AreNodesOfSource text nodes)
