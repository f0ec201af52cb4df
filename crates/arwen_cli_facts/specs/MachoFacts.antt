-- What is told of a Mach-O file: each fact is what its header and its load commands say.
use Rattle.std.specs.Prelude.{ℕ, ◌≡◌, ◌-◌, ◌==◌, List, map, Bool, false, Option, option_map}
use Rattle.std.specs.List.{list_any}
use Rattle.macho_image.specs.Commands.{id_of, libs_of, load_commands_of, rpaths_of}
use Rattle.macho_image.specs.Fat.{slice_of}
use Rattle.macho_image.specs.Form.{commands_end, ctx_of, header_of}
use Rattle.macho_image.specs.declared.command.CommandVariant.{CommandVariant}
use Rattle.macho_image.specs.declared.command.CommandVariant.TheVariants.{Other}
use Rattle.macho_image.specs.declared.fat.FatArch.{FatArch}
use Rattle.macho_image.specs.declared.format.Ctx.{Ctx}
use Rattle.macho_edits.specs.State.{available_in, laid_bytes}
use Rattle.arwen_macho.specs.FatState.{Slice}
use Rattle.arwen_elf.specs.Prints.{lossily}
use Rattle.arwen_cli_facts.specs.SignatureFacts.{SignatureFacts, signature_facts, signature_model}
use Rattle.arwen_cli_facts.specs.Texts.{text_model, texts_model}
use Rattle.arwen_cli_facts.specs.declared.macho.MachoNames.{MachoNames}
use Rattle.arwen_cli_facts.specs.declared.macho.MachoSummary.{MachoSummary}
use Rattle.arwen_cli_facts.specs.declared.macho.SliceSummary.{SliceSummary}
use Rattle.arwen_cli_facts.specs.declared.macho.TheConstants.{LC_CODE_SIGNATURE}

pub record MachoFacts : Type 0 where
  pub cpu : ℕ
  pub cpu_subtype : ℕ
  pub file_type : ℕ
  pub form : Ctx
  pub id : Option (List ℕ)
  pub libraries : List (List ℕ)
  pub run_paths : List (List ℕ)
  pub is_signed : Bool
  pub signature : Option SignatureFacts
  pub header_pad : ℕ

-- A slice of a fat file: where it stands, and the file in it.
pub record SliceFacts : Type 0 where
  pub offset : ℕ
  pub size : ℕ
  pub file : MachoFacts

-- ## What a summary holds

abbrev pub macho_model : MachoSummary → MachoFacts
macho_model s = record {
  cpu = s.cpu;
  cpu_subtype = s.cpu_subtype;
  file_type = s.file_type;
  form = s.form;
  id = text_model s.id;
  libraries = texts_model s.libraries.items;
  run_paths = texts_model s.run_paths.items;
  is_signed = s.is_signed;
  signature = option_map signature_model s.signature;
  header_pad = s.header_pad;
}

abbrev pub slice_told : SliceSummary → SliceFacts
slice_told s = record { offset = s.offset; size = s.size; file = macho_model s.file }

-- ## What a file says

-- a command that tells where the code signature stands (loader.h, LC_CODE_SIGNATURE)
abbrev pub is_signature : CommandVariant → Bool
is_signature (Other c) = c.cmd == LC_CODE_SIGNATURE
is_signature other = false

-- the bytes between the load commands and the first content, which more commands can take
abbrev pub header_pad_of : List ℕ → ℕ
header_pad_of bytes = available_in bytes - commands_end (ctx_of bytes) bytes

abbrev pub macho_facts : List ℕ → MachoFacts
macho_facts bytes = record {
  cpu = (header_of (ctx_of bytes) bytes).cputype;
  cpu_subtype = (header_of (ctx_of bytes) bytes).cpusubtype;
  file_type = (header_of (ctx_of bytes) bytes).filetype;
  form = ctx_of bytes;
  id = option_map lossily (id_of bytes);
  libraries = map lossily (libs_of bytes);
  run_paths = map lossily (rpaths_of bytes);
  is_signed = list_any (λ c. is_signature c.command) (load_commands_of bytes);
  signature = signature_facts bytes;
  header_pad = header_pad_of bytes;
}

-- the texts of a file
pub record MachoNamesOf (bytes : List ℕ) (names : MachoNames) : Type 0 where
  pub id : text_model names.id ≡ option_map lossily (id_of bytes)
  pub libraries : texts_model names.libraries.items ≡ map lossily (libs_of bytes)
  pub run_paths : texts_model names.run_paths.items ≡ map lossily (rpaths_of bytes)

abbrev pub slice_facts : List ℕ → FatArch → SliceFacts
slice_facts bytes arch = record { offset = arch.offset; size = arch.size; file = macho_facts (slice_of bytes arch) }

-- a slice under edits: the facts of its bytes
abbrev pub told_slice : Slice → SliceFacts
told_slice s = record { offset = s.arch.offset; size = s.arch.size; file = macho_facts (laid_bytes s.state) }
