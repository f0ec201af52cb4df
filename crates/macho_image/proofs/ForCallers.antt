-- For callers: what the crates above may cite. These are laws of the words of specs/; no other module of
-- this crate's proofs is meant for them.

-- an accepted file is a file, and what is a file is accepted
pub use Rattle.macho_image.proofs.FileLaws.{concat-commands_of, form_of-same, found, only}
pub use Rattle.macho_image.proofs.FormLaws.{file_passes}
pub use Rattle.macho_image.proofs.FatLaws.{fat_found, fat_only, table_passes}
pub use Rattle.macho_image.proofs.ContentLaws.{first_content_is}
-- a file that begins as an accepted one
pub use Rattle.macho_image.proofs.LongerLaws.{accepts, commands_end-longer, commands_within, least_length}
-- where the header and the area of commands lie
pub use Rattle.macho_image.proofs.FileLaws.{header_size-least, length-area_of}
-- commands end to end are an area without a fault, and are cut from it again
pub use Rattle.macho_image.proofs.AreaLaws.{area_fault-concat, cut-concat}
pub use Rattle.macho_image.proofs.CutLaws.{length-cut}
-- texts, and the commands that hold them
pub use Rattle.macho_image.proofs.TextLaws.{HoldsNoNul-from_position, before_nul-zeros}
pub use Rattle.macho_image.proofs.ContentLaws.{contents_of-text}
-- a file with a stored area: its parts, its length, and what it shows
pub use Rattle.macho_image.proofs.StoredParts.{drop-with_area_high, length-header_with, length-with_area, number_at-with_area_front, with_area-parts}
pub use Rattle.macho_image.proofs.StoreLaws.{commands_of-with_area, ctx_of-with_area, file_fault-with_area, first_content_of-with_area, header_of-with_area, with_area-same, with_area-with_area}
