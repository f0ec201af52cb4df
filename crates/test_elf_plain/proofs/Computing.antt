-- Opens every definition that a row computes with.
use Rattle.patch_bytes.specs.Memory.{bytes_at, number_in, text_at}
use Rattle.patch_bytes.specs.Number.{number_at}
use Rattle.elf_format.specs.Dynamic.{entries_at, shown_entry}
use Rattle.elf_format.specs.File.{opened_of, parts_of, section_bytes, sections_of, sections_there, segments_of}
use Rattle.elf_format.specs.Form.{records}
use Rattle.elf_format.specs.Hashes.{gabi_hash, gabi_visited, gnu_hash, gnu_header}
use Rattle.elf_format.specs.Options.{each}
use Rattle.elf_format.specs.Records.{entry_numbers, file_header, relocation, section_header, segment_header, symbol_numbers}
use Rattle.elf_format.specs.Rules.{accepted_parts, checked, fault_of}
use Rattle.elf_format.specs.Versions.{definition_at, definition_name_at, need_at, need_name_at, shown_definition, shown_need, shown_need_name, version_id, chain_steps}
use Rattle.elf_format.specs.Views.{byte_at, defined_versions, dynamic_symbol_count, dynamic_symbols, loader_view_within, named_symbols, needed_versions, section_view, symbol_versions, view_of, whole_chain}

unfoldable pub computing : Unit {0}
unfolding accepted_parts byte_at bytes_at checked defined_versions definition_at definition_name_at dynamic_symbol_count dynamic_symbols each entries_at entry_numbers fault_of file_header gabi_hash gabi_visited gnu_hash gnu_header loader_view_within named_symbols need_at need_name_at needed_versions number_at number_in opened_of parts_of records relocation section_bytes section_header section_view sections_of sections_there segment_header segments_of shown_definition shown_entry shown_need shown_need_name symbol_numbers symbol_versions text_at version_id view_of chain_steps whole_chain
computing = tt
