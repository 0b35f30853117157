-- That an image and a locked shelf are two kinds of the same library.
use Rattle.std.specs.Prelude.{◌≡◌}
use Rattle.library.specs.declared.lock.Lock.{Lock}
use Rattle.library.specs.Locked.{lock_meaning}
use Rattle.image.specs.declared.granted.Image.{Image}
use Rattle.image.specs.Granting.{programs_held, meaning_of as image_meaning}
use Rattle.shelf.specs.declared.shelf.Shelf.{Shelf}
use Rattle.shelf.specs.Shelved.{programs_of, meaning_of as shelf_meaning}

-- An image and a locked shelf of the same programs mean the same library: its programs, the space left and the lock.
abbrev pub ImageAndLockedShelfAgree : Type 0
ImageAndLockedShelfAgree = (image : Image) (lock : Lock Shelf) →
    programs_held image ≡ programs_of lock.inner → image_meaning image ≡ lock_meaning shelf_meaning lock
