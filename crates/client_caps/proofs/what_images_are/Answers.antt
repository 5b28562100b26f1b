use Rattle.client_caps.proofs.what_images_are.Goals as goal
use Rattle.client_caps.proofs.WhatImagesAre.{image_is}

pub returns-clause-source : goal.returns-clause-source
returns-clause-source c v caps moment line image e = cc (image_is v caps moment line image e)
