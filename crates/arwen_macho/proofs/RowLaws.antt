-- The rows, computed.
use Rattle.std.proofs.Common.{refl}
use Rattle.patch_bytes.specs.Number.{number_at}
use Rattle.macho_image.specs.Checks.{command_fault, fields_fault, file_fault, form_fault}
use Rattle.macho_image.specs.Commands.{commands_of, first_content_of, rpaths_of}
use Rattle.macho_image.specs.Command.{contents_of, least_size, symtab_content, text_of}
use Rattle.macho_image.specs.Fat.{archs_of}
use Rattle.macho_image.specs.Form.{ctx_of, form_of}
use Rattle.macho_image.specs.Image.{with_area}
use Rattle.macho_edits.specs.Built.{built_dylib, built_rpath, built_size, dylib_built, rpath_built}
use Rattle.macho_edits.specs.Edited.{edited_list, is_id, is_library_named, is_rpath_named}
use Rattle.arwen_macho.specs.Rows as rows
use Rattle.macho_edits.specs.State.{first_state, fitted_state, laid_bytes, step}
use Rattle.arwen_macho.specs.Container.{container_step}
use Rattle.arwen_macho.specs.FatState.{fat_laid_bytes, fat_step, first_fat_state}

pub builds_wide_little : rows.BuildsWideLittle
unfolding rpath_built built_rpath built_size
builds_wide_little = (refl, refl)

pub builds_wide_big : rows.BuildsWideBig
unfolding rpath_built built_rpath built_size
builds_wide_big = (refl, refl)

pub builds_narrow_little : rows.BuildsNarrowLittle
unfolding rpath_built built_rpath built_size
builds_narrow_little = (refl, refl)

pub builds_narrow_big : rows.BuildsNarrowBig
unfolding rpath_built built_rpath built_size
builds_narrow_big = (refl, refl)

pub builds_empty : rows.BuildsEmpty
unfolding rpath_built built_rpath built_size
builds_empty = (refl, refl)

pub builds_empty_narrow : rows.BuildsEmptyNarrow
unfolding rpath_built built_rpath built_size
builds_empty_narrow = refl

pub builds_four : rows.BuildsFour
unfolding rpath_built built_rpath built_size
builds_four = refl

pub builds_name : rows.BuildsName
unfolding dylib_built built_dylib built_size
builds_name = (refl, refl)

pub builds_name_narrow : rows.BuildsNameNarrow
unfolding dylib_built built_dylib built_size
builds_name_narrow = (refl, refl)

pub accepts_wide_little : rows.AcceptsWideLittle
unfolding file_fault form_fault command_fault fields_fault least_size ctx_of form_of number_at first_state
accepts_wide_little = (refl, refl)

pub adds_first : rows.AddsFirst
unfolding step fitted_state laid_bytes first_state with_area edited_list rpath_built built_rpath built_size is_rpath_named text_of number_at commands_of first_content_of contents_of ctx_of form_of
adds_first = refl

pub shows_first : rows.ShowsFirst
unfolding file_fault form_fault command_fault fields_fault least_size rpaths_of step fitted_state laid_bytes first_state with_area edited_list rpath_built built_rpath built_size is_rpath_named text_of number_at commands_of first_content_of contents_of ctx_of form_of
shows_first = ((refl, refl), refl)

pub adds_no_second : rows.AddsNoSecond
unfolding step fitted_state laid_bytes first_state with_area edited_list rpath_built built_rpath built_size is_rpath_named text_of number_at commands_of first_content_of contents_of ctx_of form_of
adds_no_second = refl

pub keeps_refused : rows.KeepsRefused
unfolding step fitted_state laid_bytes first_state with_area edited_list rpath_built built_rpath built_size is_rpath_named text_of number_at commands_of first_content_of contents_of ctx_of form_of container_step
keeps_refused = ((refl, (refl, tt)), refl)

pub adds_then_removes : rows.AddsThenRemoves
unfolding step fitted_state laid_bytes first_state with_area edited_list rpath_built built_rpath built_size is_rpath_named text_of number_at commands_of first_content_of contents_of ctx_of form_of
adds_then_removes = refl

pub adds_no_third : rows.AddsNoThird
unfolding step fitted_state laid_bytes first_state with_area edited_list rpath_built built_rpath built_size is_rpath_named text_of number_at commands_of first_content_of contents_of ctx_of form_of
adds_no_third = refl

pub keeps_pad : rows.KeepsPad
unfolding step fitted_state laid_bytes first_state with_area edited_list rpath_built built_rpath built_size is_rpath_named text_of number_at commands_of first_content_of contents_of ctx_of form_of
keeps_pad = refl

pub clears_pad : rows.ClearsPad
unfolding step fitted_state laid_bytes first_state with_area edited_list rpath_built built_rpath built_size is_rpath_named text_of number_at commands_of first_content_of contents_of ctx_of form_of container_step
clears_pad = ((refl, (refl, tt)), refl)

pub refuses_second : rows.RefusesSecond
unfolding step fitted_state laid_bytes first_state with_area edited_list rpath_built built_rpath built_size is_rpath_named text_of number_at commands_of first_content_of contents_of ctx_of form_of
refuses_second = refl

pub accepts_wide_big : rows.AcceptsWideBig
unfolding file_fault form_fault command_fault fields_fault least_size ctx_of form_of number_at first_state
accepts_wide_big = (refl, refl)

pub adds_wide_big : rows.AddsWideBig
unfolding step fitted_state laid_bytes first_state with_area edited_list rpath_built built_rpath built_size is_rpath_named text_of number_at commands_of first_content_of contents_of ctx_of form_of
adds_wide_big = refl

pub adds_no_second_wide_big : rows.AddsNoSecondWideBig
unfolding step fitted_state laid_bytes first_state with_area edited_list rpath_built built_rpath built_size is_rpath_named text_of number_at commands_of first_content_of contents_of ctx_of form_of
adds_no_second_wide_big = refl

pub accepts_narrow_little : rows.AcceptsNarrowLittle
unfolding file_fault form_fault command_fault fields_fault least_size ctx_of form_of number_at first_state
accepts_narrow_little = (refl, refl)

pub adds_narrow_little : rows.AddsNarrowLittle
unfolding step fitted_state laid_bytes first_state with_area edited_list rpath_built built_rpath built_size is_rpath_named text_of number_at commands_of first_content_of contents_of ctx_of form_of
adds_narrow_little = refl

pub adds_no_second_narrow_little : rows.AddsNoSecondNarrowLittle
unfolding step fitted_state laid_bytes first_state with_area edited_list rpath_built built_rpath built_size is_rpath_named text_of number_at commands_of first_content_of contents_of ctx_of form_of
adds_no_second_narrow_little = refl

pub accepts_narrow_big : rows.AcceptsNarrowBig
unfolding file_fault form_fault command_fault fields_fault least_size ctx_of form_of number_at first_state
accepts_narrow_big = (refl, refl)

pub adds_narrow_big : rows.AddsNarrowBig
unfolding step fitted_state laid_bytes first_state with_area edited_list rpath_built built_rpath built_size is_rpath_named text_of number_at commands_of first_content_of contents_of ctx_of form_of
adds_narrow_big = refl

pub adds_no_second_narrow_big : rows.AddsNoSecondNarrowBig
unfolding step fitted_state laid_bytes first_state with_area edited_list rpath_built built_rpath built_size is_rpath_named text_of number_at commands_of first_content_of contents_of ctx_of form_of
adds_no_second_narrow_big = refl

pub refuses_nul : rows.RefusesNul
unfolding step fitted_state laid_bytes first_state with_area edited_list rpath_built built_rpath built_size is_rpath_named text_of number_at commands_of first_content_of contents_of ctx_of form_of
refuses_nul = refl

pub refuses_missing : rows.RefusesMissing
unfolding step fitted_state laid_bytes first_state with_area edited_list rpath_built built_rpath built_size is_rpath_named text_of number_at commands_of first_content_of contents_of ctx_of form_of
refuses_missing = refl

pub refuses_missing_first : rows.RefusesMissingFirst
unfolding step fitted_state laid_bytes first_state with_area edited_list rpath_built built_rpath built_size is_rpath_named text_of number_at commands_of first_content_of contents_of ctx_of form_of
refuses_missing_first = refl

pub adds_behind : rows.AddsBehind
unfolding rpath_built built_rpath built_size edited_list
adds_behind = refl

pub removes_first : rows.RemovesFirst
unfolding edited_list rpath_built built_rpath built_size is_rpath_named text_of number_at
removes_first = refl

pub changes_first : rows.ChangesFirst
unfolding edited_list rpath_built built_rpath built_size is_rpath_named text_of number_at
changes_first = refl

pub refuses_own_name : rows.RefusesOwnName
unfolding edited_list dylib_built built_dylib built_size is_library_named text_of number_at
refuses_own_name = refl

pub changes_own_name : rows.ChangesOwnName
unfolding edited_list dylib_built built_dylib built_size is_id number_at
changes_own_name = refl

pub refuses_beginning : rows.RefusesBeginning
unfolding edited_list rpath_built built_rpath built_size is_rpath_named text_of number_at
refuses_beginning = refl

pub refuses_longer : rows.RefusesLonger
unfolding edited_list rpath_built built_rpath built_size is_rpath_named text_of number_at
refuses_longer = refl

pub refuses_shown_as : rows.RefusesShownAs
unfolding edited_list rpath_built built_rpath built_size is_rpath_named text_of number_at
refuses_shown_as = refl

pub changes_first_library : rows.ChangesFirstLibrary
unfolding edited_list dylib_built built_dylib built_size is_library_named text_of number_at
changes_first_library = refl

pub changes_first_id : rows.ChangesFirstId
unfolding edited_list dylib_built built_dylib built_size is_id number_at
changes_first_id = refl

pub accepts_symbols : rows.AcceptsSymbols
unfolding file_fault form_fault command_fault fields_fault least_size first_state first_content_of commands_of contents_of symtab_content ctx_of form_of number_at
accepts_symbols = ((refl, refl), refl)

pub adds_up_to_content : rows.AddsUpToContent
unfolding step fitted_state laid_bytes first_state with_area edited_list rpath_built built_rpath built_size is_rpath_named text_of number_at commands_of first_content_of contents_of ctx_of form_of symtab_content
adds_up_to_content = refl

pub adds_no_further : rows.AddsNoFurther
unfolding step fitted_state laid_bytes first_state with_area edited_list rpath_built built_rpath built_size is_rpath_named text_of number_at commands_of first_content_of contents_of ctx_of form_of symtab_content
adds_no_further = refl

pub adds_nothing_among_commands : rows.AddsNothingAmongCommands
unfolding step fitted_state laid_bytes first_state with_area edited_list rpath_built built_rpath built_size is_rpath_named text_of number_at commands_of first_content_of contents_of ctx_of form_of symtab_content
adds_nothing_among_commands = refl

pub keeps_among_commands : rows.KeepsAmongCommands
unfolding step fitted_state laid_bytes first_state with_area edited_list rpath_built built_rpath built_size is_rpath_named text_of number_at commands_of first_content_of contents_of ctx_of form_of symtab_content
keeps_among_commands = refl

pub adds_in_both : rows.AddsInBoth
unfolding step fitted_state laid_bytes first_state with_area edited_list rpath_built built_rpath built_size is_rpath_named text_of number_at commands_of first_content_of contents_of ctx_of form_of container_step first_fat_state archs_of fat_step fat_laid_bytes
adds_in_both = ((refl, (refl, tt)), refl)

pub adds_in_none : rows.AddsInNone
unfolding step fitted_state laid_bytes first_state with_area edited_list rpath_built built_rpath built_size is_rpath_named text_of number_at commands_of first_content_of contents_of ctx_of form_of container_step first_fat_state archs_of fat_step fat_laid_bytes
adds_in_none = ((refl, tt), refl)

pub gives_back_in_both : rows.GivesBackInBoth
unfolding step fitted_state laid_bytes first_state with_area edited_list rpath_built built_rpath built_size is_rpath_named text_of number_at commands_of first_content_of contents_of ctx_of form_of container_step first_fat_state archs_of fat_step fat_laid_bytes
gives_back_in_both = ((refl, (refl, tt)), refl)
