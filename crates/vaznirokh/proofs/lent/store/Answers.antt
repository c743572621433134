-- `vaznirokh::lent::store` meets its contract: the image fills exactly the words that are lent for it.
-- Assumes nothing.
use borrow.Author.Rules.{rules}
use mathlib.Core.Path.{◌∙◌}
use Rattle.image.proofs.ImageLaws.{image_fills}
use Rattle.vaznirokh.proofs.lent.store.Goals as goal

pub returns : goal.returns
returns c =
    let a = c.args in
    c.put_switch.ensures
    ∙ image_fills a.s
    (record { incap = search rules; outcap = search rules; crosscap = search rules; inlen = search rules; outlen = search rules; crosslen = search rules })
    a.state.now c.requires
