use Rattle.std.proofs.Common.{ap, ◌∙◌}
use Rattle.macho_signatures.specs.Pages.{hash_of, page_hash}
use Rattle.macho_signatures.proofs.directory.Directory.page_hash.Goals as goal

pub returns : goal.returns
unfolding page_hash
returns c = c.hash.ensures ∙ ap (hash_of c.args.self.now.hash) c.page.ensures
