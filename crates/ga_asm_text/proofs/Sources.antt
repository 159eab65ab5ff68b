-- From the image of a source to what is written.
use Rattle.std.proofs.Common.{◌≡◌, ◌≢◌, ◌∙◌, ℕ, Bool, true, false, List, [], ◌++◌, map, ap, inl, inr, refl, sym, subst}
use Rattle.ga_parser.specs.declared.fault.SourceFault.{SourceFault}
use Rattle.ga_parser.specs.declared.fault.SourceFaultCause.TheVariants.{Memory}
use Rattle.ga_source.specs.declared.program.AssembledChip.{AssembledChip}
use Rattle.ga_parser.specs.declared.scan.Token.{Token}
use Rattle.ga_parser.specs.Saying.{token_contents}
use Rattle.ga_parser.specs.Words.{source_tokens, source_tokens_without_copies}
use Rattle.ga_source.specs.Made.{IsPlainSource}
use Rattle.ga_source.specs.Recovery.{tokens_with_word_numbers, IsAssemblyOfWords, fault_at_line_of_word, faults_at_lines_of_words, faults_or_first_fault, AreFaultsOfWords}
use Rattle.ga_image.specs.FirstFault.{out_of_memory_fault}
use Rattle.ga_image.specs.declared.fault.ImageFault.{ImageFault}
use Rattle.ga_console.specs.Run.{ReadsOnlyImage, IsFaultOfImage, Refused, WritesImageRefusal}
use Rattle.ga_console.specs.inner.Run.{WritesTextWithStatus}
use Rattle.ga_asm_text.specs.Source.{IsAssembledImage, WritesAssembly, HasAssembledChip, listed_fault_text, HasTextPartsInOrder, ListsFaultsOfSource, WritesListing, IsDisassembly, WritesDisassembly}
use Rattle.ga_text.specs.Output.{IsImageReadWhole}
use Rattle.ga_asm_text.specs.inner.{WritesAssemblyAfterRead, IsListingOutcome, status_with_listing_fault, status_after_listing, WritesListingAfterRead, WritesDisassemblyAfterRead, IsUnreadSourceStatus}
use Rattle.ga_asm_text.proofs.FaultListing.{first_alone}
use Rattle.ga_console.specs.declared.run.Status.{Status}
use Rattle.ga_console.specs.declared.run.Status.TheVariants.{Done, ImageRefused, StreamFault, NotFinished, CommandRefused}
use Rattle.ga_console.proofs.RunLemmas.{refused_in}

-- the image was written, or a front of it
pub assembly_written : (source whole text : List ℕ) (status : Status) → IsAssembledImage source whole → WritesTextWithStatus whole text status → WritesAssemblyAfterRead source text status
assembly_written source whole text Done image written = subst (IsAssembledImage source) (sym written) image
assembly_written source whole text StreamFault image written = record { whole = whole; is_text = image; front = written }
assembly_written source whole text ImageRefused image written = absurd written
assembly_written source whole text NotFinished image written = absurd written
assembly_written source whole text CommandRefused image written = absurd written

-- what was written for the source that was read
pub assembles : (source ahead read rest text : List ℕ) (status : Status) → read ≡ source ++ ahead → IsImageReadWhole source ahead rest → WritesAssemblyAfterRead source text status → WritesAssembly read rest text status
assembles source ahead read rest text Done e part written = (source, ahead, e, part, written)
assembles source ahead read rest text ImageRefused e part written = written
assembles source ahead read rest text StreamFault e part written = inr (source, ahead, e, part, written)
assembles source ahead read rest text NotFinished e part written = written
assembles source ahead read rest text CommandRefused e part written = written

-- and where it wasn't read whole
pub assembles_nothing : (read rest : List ℕ) (status : Status) → IsUnreadSourceStatus read status → WritesAssembly read rest [] status
assembles_nothing read rest Done unread = absurd unread
assembles_nothing read rest ImageRefused unread = refl
assembles_nothing read rest StreamFault unread = inl (refl, unread)
assembles_nothing read rest NotFinished unread = unread
assembles_nothing read rest CommandRefused unread = unread

-- all words of a source were assembled
pub listed_whole : (source text : List ℕ) (words : List Token) (all : AssembledChip) → token_contents words ≡ source_tokens source → IsAssemblyOfWords (tokens_with_word_numbers 1 words) all → IsListingOutcome source false text
listed_whole source text words all said is = record { words = words; all = all; said = said; assembled = is }

-- or it has a fault
pub listed_faulty : (source text : List ℕ) (words : List Token) (fault : SourceFault) (found all : List SourceFault) → token_contents words ≡ source_tokens_without_copies source → (IsPlainSource source → fault.cause ≡ Memory) → fault.cause ≢ Memory
    → AreFaultsOfWords (token_contents (tokens_with_word_numbers 1 words)) found → all ≡ faults_or_first_fault found fault → HasTextPartsInOrder (map (listed_fault_text source) (faults_at_lines_of_words words all)) text → IsListingOutcome source true text
listed_faulty source text words fault found all said sound other are is among = (
  (λ is_sound. other (sound is_sound)),
  (
    fault_at_line_of_word words fault,
    faults_at_lines_of_words words all,
    record { words = words; numbered = found; said = said; found = are; lines = ap (faults_at_lines_of_words words) is ∙ first_alone words found fault },
    among,
  ),
)

-- the listing was written, or a front of it
whole_written : (source whole text : List ℕ) (status : Status) → HasAssembledChip source → WritesTextWithStatus whole text status → WritesListingAfterRead source text status
whole_written source whole text Done is written = is
whole_written source whole text StreamFault is written = tt
whole_written source whole text ImageRefused is written = absurd written
whole_written source whole text NotFinished is written = absurd written
whole_written source whole text CommandRefused is written = absurd written

faulty_written : (source whole text : List ℕ) (status : Status) → IsListingOutcome source true whole → WritesTextWithStatus whole text status → WritesListingAfterRead source text (status_with_listing_fault status)
faulty_written source whole text Done faulty written = inr (faulty.0, subst (ListsFaultsOfSource source) (sym written) faulty.1)
faulty_written source whole text StreamFault faulty written = tt
faulty_written source whole text ImageRefused faulty written = absurd written
faulty_written source whole text NotFinished faulty written = absurd written
faulty_written source whole text CommandRefused faulty written = absurd written

status_written : (source whole text : List ℕ) (is_faulty : Bool) (status : Status) → IsListingOutcome source is_faulty whole → WritesTextWithStatus whole text status → WritesListingAfterRead source text (status_after_listing status is_faulty)
status_written source whole text false status is written = whole_written source whole text status is written
status_written source whole text true status is written = faulty_written source whole text status is written

pub listing_written : (source whole text : List ℕ) (is_faulty : Bool) (status result : Status) → result ≡ status_after_listing status is_faulty → IsListingOutcome source is_faulty whole → WritesTextWithStatus whole text status → WritesListingAfterRead source text result
listing_written source whole text is_faulty status result e is written = subst (WritesListingAfterRead source text) (sym e) (status_written source whole text is_faulty status is written)

-- what was listed of the source that was read
pub lists : (source ahead read rest text : List ℕ) (status : Status) → read ≡ source ++ ahead → IsImageReadWhole source ahead rest → WritesListingAfterRead source text status → WritesListing read rest text status
lists source ahead read rest text Done e part written = (source, ahead, e, part, written)
lists source ahead read rest text ImageRefused e part (inl none) = inl none
lists source ahead read rest text ImageRefused e part (inr faulty) = inr (source, ahead, e, part, faulty)
lists source ahead read rest text StreamFault e part written = inr (source, ahead, e, part, tt)
lists source ahead read rest text NotFinished e part written = written
lists source ahead read rest text CommandRefused e part written = written

pub lists_nothing : (read rest : List ℕ) (status : Status) → IsUnreadSourceStatus read status → WritesListing read rest [] status
lists_nothing read rest Done unread = absurd unread
lists_nothing read rest ImageRefused unread = inl refl
lists_nothing read rest StreamFault unread = inl (refl, unread)
lists_nothing read rest NotFinished unread = unread
lists_nothing read rest CommandRefused unread = unread

-- source of an image was written, or a front of it
pub source_written : (image whole text : List ℕ) (status : Status) → IsDisassembly image whole → WritesTextWithStatus whole text status → WritesDisassemblyAfterRead image text status
source_written image whole text Done accepted written = subst (IsDisassembly image) (sym written) accepted
source_written image whole text StreamFault accepted written = inl (record { whole = whole; is_text = accepted; front = written })
source_written image whole text ImageRefused accepted written = absurd written
source_written image whole text NotFinished accepted written = absurd written
source_written image whole text CommandRefused accepted written = absurd written

-- an image's refusal was written, or a front of it
pub refusal_written : (image text : List ℕ) (fault : ImageFault) (status : Status) → IsFaultOfImage image fault → WritesImageRefusal fault text status → WritesDisassemblyAfterRead image text status
refusal_written image text fault Done is written = absurd written
refusal_written image text fault ImageRefused is written = (fault, is, written)
refusal_written image text fault StreamFault is written = inr (fault, is, written)
refusal_written image text fault NotFinished is written = absurd written
refusal_written image text fault CommandRefused is written = absurd written

-- an image that was read is refused
refused_of : (image ahead read rest : List ℕ) (fault : ImageFault) → read ≡ image ++ ahead → ReadsOnlyImage image ahead rest → IsFaultOfImage image fault → Refused read rest fault
refused_of image ahead read rest fault e part is =
    let P : List ℕ → Type 0 = λ r. Refused r rest fault in subst P (sym e) (refused_in image ahead rest fault part is)

-- what was written for the image that was read
pub disassembles : (image ahead read rest text : List ℕ) (status : Status) → read ≡ image ++ ahead → ReadsOnlyImage image ahead rest → WritesDisassemblyAfterRead image text status → WritesDisassembly read rest text status
disassembles image ahead read rest text Done e part written = (image, ahead, e, part, written)
disassembles image ahead read rest text ImageRefused e part written = (written.0, refused_of image ahead read rest written.0 e part written.1, written.2)
disassembles image ahead read rest text StreamFault e part (inl accepted) = inr (inl (image, ahead, e, part, accepted))
disassembles image ahead read rest text StreamFault e part (inr refused) = inr (inr (refused.0, refused_of image ahead read rest refused.0 e part refused.1, refused.2))
disassembles image ahead read rest text NotFinished e part written = written
disassembles image ahead read rest text CommandRefused e part written = written

-- memory was wanting while an image was read
pub disassembles_nothing : (read rest text : List ℕ) (status : Status) → WritesImageRefusal out_of_memory_fault text status → WritesDisassembly read rest text status
disassembles_nothing read rest text Done written = absurd written
disassembles_nothing read rest text ImageRefused written = (out_of_memory_fault, inl refl, written)
disassembles_nothing read rest text StreamFault written = inr (inr (out_of_memory_fault, inl refl, written))
disassembles_nothing read rest text NotFinished written = absurd written
disassembles_nothing read rest text CommandRefused written = absurd written
